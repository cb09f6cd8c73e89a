-- The record of one source and when it is sound (document 01, "Counting arrivals"; 02, request L5).
use Rattle.format.specs.declared.Wire.{Wire}
use Rattle.answers.specs.declared.Refusal.{Refusal}
use Rattle.std.specs.Prelude.{ℕ, ◌+◌, ◌-◌, ◌*◌, ◌^◌, Bool, true, false, not, cond, ◌||◌, List, [], ◌∷◌, eqb, leb, ltb, ℤ, pos, ◌+ℤ◌, ◌-ℤ◌, Option, Some, None, Result, Ok, Err}
use Rattle.std.specs.Int.Signed.{le_z}
use Rattle.answers.specs.Conditions.{all}
use Rattle.numbers.specs.Integers.{eq_z}
use Rattle.answers.specs.declared.Refusal.TheVariants.{Malformed}
use Rattle.source.specs.declared.Source.{Source}
use Rattle.source.specs.Places.{marks, places}
use Rattle.source.specs.Distances.{most_ahead}

-- the arrivals accepted: the four mark counters sum to them
abbrev pub arrivals : Source → ℕ
arrivals s = s.notect + s.ect1 + s.ect0 + s.ce

-- distinct = arrivals minus duplicates
abbrev pub distinct : Source → ℕ
distinct s = arrivals s - s.duplicates

-- no number is remembered
abbrev pub nothing : Option Wire → Bool
nothing None = true
nothing (Some wire) = false

-- a number that is remembered has 16 bits
abbrev pub wire_number : Option Wire → Bool
wire_number None = true
wire_number (Some wire) = ltb wire.0 65536

-- all zero, and none remembered
abbrev pub zeros : Source → List Bool
zeros s =
    eq_z s.base.0 (pos 0)
    ∷ eq_z s.highest.0 (pos 0)
    ∷ eqb s.notect 0
    ∷ eqb s.ect1 0
    ∷ eqb s.ect0 0
    ∷ eqb s.ce 0
    ∷ eqb s.duplicates 0
    ∷ eqb s.history.recent 0
    ∷ eqb s.history.older 0
    ∷ nothing s.remembered
    ∷ []

abbrev pub fresh_record : Source
fresh_record = record {
  base = record { 0 = pos 0 };
  highest = record { 0 = pos 0 };
  notect = 0;
  ect1 = 0;
  ect0 = 0;
  ce = 0;
  duplicates = 0;
  history = record { recent = 0; older = 0 };
  remembered = None;
}

unfoldable pub fresh : Source → Bool
fresh s = all (zeros s)

-- a record that has counted: base a wire number; highest at least base; marks that sum to 1 to 2^48; duplicates below that sum; the
-- history marks the highest, and nothing beyond place 99; no more places marked than distinct arrivals; and a highest that so many
-- arrivals can reach. (It remembers none or any wire number.)
abbrev pub conditions : Source → List Bool
conditions s =
    le_z (pos 0) s.base.0
    ∷ le_z s.base.0 (pos 65535)
    ∷ le_z s.base.0 s.highest.0
    ∷ leb 1 (arrivals s)
    ∷ leb (arrivals s) (2 ^ 48)
    ∷ ltb s.duplicates (arrivals s)
    ∷ marks s.history 0
    ∷ ltb s.history.older (2 ^ 36)
    ∷ leb (places s.history) (distinct s)
    ∷ le_z (s.highest.0 -ℤ s.base.0) (pos (most_ahead * (distinct s - 1)))
    ∷ []

unfoldable pub has_counted : Source → Bool
has_counted s = all (conditions s)

unfoldable pub sound : Source → Bool
sound s = fresh s || has_counted s

-- lost = highest - base + 1 - distinct, and 0 in the fresh record
unfoldable pub lost : Source → ℤ
lost s = cond (fresh s) (pos 0) (s.highest.0 -ℤ s.base.0 +ℤ pos 1 -ℤ pos (distinct s))

-- what the call `lost` answers; 9 for a malformed record
unfoldable pub lost_answer : Source → Result ℤ Refusal
lost_answer s = cond (not (sound s)) (Err Malformed) (Ok (lost s))
