-- `byte_arena::paste` meets its contract: the part of the arena from the place on is copied over. Assumes nothing.
use Rattle.byte_arena.proofs.Lent.{pasted_end}
use Rattle.byte_arena.proofs.paste.Goals as goal

pub returns : goal.returns
returns c =
    pasted_end _ c.args.at _ _ c.requires c.copy.ensures
