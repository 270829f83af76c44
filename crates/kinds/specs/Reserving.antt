-- What reserve promises, by what calls tell: when it says room, and that keys then go in.
use Rattle.std.specs.Prelude.{ℕ, ◌≤◌, ◌<◌, true, List, [], ◌∷◌, ◌↔◌, ◌≡◌}
use Rattle.model.specs.Finite.{member, mass, Once}
use Rattle.model.specs.Machine.{World}
use Rattle.model.specs.Store.{Store}
use Rattle.answers.specs.Cases.{ROOM, ABSENT, FRESH}
use Rattle.answers.specs.declared.Numbers.{Numbers}
use Rattle.kinds.specs.Owed.{refusing, only}
use Rattle.kinds.specs.Published.{Published, after_calls}

-- What reserve tells for n keys of b bytes where so many slots are not live and so many bytes are not used: room exactly when both suffice, 7 exactly when the slots do not, 8 exactly when they do and the bytes do not.
pub record RoomTold (slots bytes n b : ℕ) (t : Numbers) : Type 0 where
  pub room : (t ≡ only ROOM) ↔ ((n ≤ slots) × (b ≤ bytes))
  pub no_slots : (t ≡ refusing 7 0) ↔ (slots < n)
  pub no_bytes : (t ≡ refusing 8 0) ↔ ((n ≤ slots) × (bytes < b))

module _ {K W : Type 0} (M : Store K W) (P : Published M) where
  -- A kind's insert of a key with a value, and its contains.
  pub record KeyCalls : Type 0 where
    pub insert : K → W → P.Call
    pub contains : K → P.Call

  -- An insert in its turn: any published calls on any tables before it, then its key and value.
  pub record Turn : Type 0 where
    pub before : List (ℕ × P.Call)
    pub key : K
    pub value : W

  -- The keys of a list of inserts.
  unfoldable pub keys_of : List Turn → List K
  keys_of [] = []
  keys_of (t ∷ ts) = t.key ∷ keys_of ts

  module _ (Q : KeyCalls) (x : ℕ) where
    -- All tables when an insert's turn has come, after the calls before it.
    abbrev pub called_at : World M → Turn → World M
    called_at w t = (after_calls M P t.before w).world

    -- All tables after the insert of the turn.
    abbrev pub left_by : World M → Turn → World M
    left_by w t = P.after (called_at w t) x (Q.insert t.key t.value)

    -- The calls before each insert leave the lent memory of the table x as it was.
    abbrev pub Undisturbed : World M → List Turn → Type 0
    Undisturbed w [] = Unit {0}
    Undisturbed w (t ∷ ts) = (called_at w t x ≡ w x) × Undisturbed (left_by w t) ts

    -- Each insert tells fresh.
    abbrev pub AllFresh : World M → List Turn → Type 0
    AllFresh w [] = Unit {0}
    AllFresh w (t ∷ ts) = ((P.tells (called_at w t) x (Q.insert t.key t.value)).case ≡ FRESH) × AllFresh (left_by w t) ts

    -- Reserve, the call c, of n keys of b bytes on the table x.
    pub record Reserves (w : World M) (c : P.Call) (n b : ℕ) : Type 0 where
      -- where it tells room, any different keys that may be stored and that contains tells absent, up to n of them and up to b bytes in all, go in, each told fresh, in any order
      pub goes_in : (P.tells w x c).case ≡ ROOM → (ts : List Turn) → Once M.keys (keys_of ts) → ((k : K) → member M.keys k (keys_of ts) ≡ true → (M.kept k ≡ 0) × ((P.tells w x (Q.contains k)).case ≡ ABSENT)) → mass (λ k. 1) (keys_of ts) ≤ n → mass M.weight (keys_of ts) ≤ b → Undisturbed w ts → AllFresh w ts
      -- where n keys of b bytes or more would go in so, it tells room
      pub went_in : (ts : List Turn) → Undisturbed w ts → AllFresh w ts → n ≤ mass (λ k. 1) (keys_of ts) → b ≤ mass M.weight (keys_of ts) → (P.tells w x c).case ≡ ROOM
