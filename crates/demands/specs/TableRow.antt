-- Demand 3 in the table: "every report written from it carries that count", and so does a row (document 01, "Table": the full values).
use Rattle.std.specs.Prelude.{◌≡◌, List, [], ◌∷◌, ℕ, None}
use Rattle.table.specs.Decimal.{decimal, signed}
use Rattle.table.specs.Field.{as_field, line}
use Rattle.table.specs.Lines.{row_fault, row_bytes}
use Rattle.demands.specs.Calls.{TruePacket, arrivals, run}
use Rattle.demands.specs.Count.{greatest_in, duplicates_of, tally, lost_of}

-- the texts of a row's numbers, from the count over a list of arrivals
abbrev pub count_texts : ℕ → List TruePacket → ℕ → ℕ → List (List ℕ)
count_texts ssrc ps jumped restarts =
    decimal ssrc
    ∷ signed (greatest_in ps)
    ∷ decimal (tally 2 ps)
    ∷ decimal (tally 1 ps)
    ∷ decimal (tally 3 ps)
    ∷ decimal (tally 0 ps)
    ∷ signed (lost_of ps)
    ∷ decimal (duplicates_of ps)
    ∷ decimal jumped
    ∷ decimal restarts
    ∷ []

-- the label, and these texts
abbrev pub count_row : List ℕ → ℕ → List TruePacket → ℕ → ℕ → List ℕ
count_row label ssrc ps jumped restarts = line (as_field label) (count_texts ssrc ps jumped restarts)

-- the row of the state at the end of a list of calls: it is not refused, and has the count's values
pub record Row (ps : List TruePacket) (label : List ℕ) (ssrc jumped restarts : ℕ) : Type 0 where
  pub accepted : row_fault label (record { source = run ps; jumped = jumped; restarts = restarts }) ≡ None
  pub bytes : row_bytes label ssrc (record { source = run ps; jumped = jumped; restarts = restarts }) ≡ count_row label ssrc (arrivals ps) jumped restarts
