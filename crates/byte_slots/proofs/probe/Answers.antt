-- `byte_slots::probe` meets its contract: where sizes fit, the home slot is one of the table's.
use Rattle.byte_slots.proofs.Sizes.{home_fits}
use Rattle.byte_slots.proofs.probe.Goals as goal

pub walk_path-requires : goal.walk_path-requires
walk_path-requires c = home_fits _ _ c.fits.ensures c.if-not-fits.false c.slot_of_key-home.ensures
