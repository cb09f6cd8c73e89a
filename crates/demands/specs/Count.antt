-- The count over a list of arrivals (document 01, "Counting arrivals"). It runs nothing: it names neither the calls nor what one of them does.
use Rattle.std.specs.Prelude.{Bool, false, not, ◌&&◌, ◌||◌, List, [], ◌∷◌, ◌≡◌, ℕ, ◌+◌, ◌-◌, ◌%◌, ◌^◌, eqb, ℤ, pos, ◌+ℤ◌, ◌-ℤ◌, length, None}
use Rattle.numbers.specs.Integers.{modulo, eq_z}
use Rattle.source.specs.declared.Source.{Source}
use Rattle.source.specs.Places.{bit, history}
use Rattle.source.specs.Arrivals.{extended}
use Rattle.format.specs.declared.Counts.{Counts}
use Rattle.demands.specs.Calls.{TruePacket, max_z}

-- base is the first true number
abbrev pub base_of : List TruePacket → ℤ
base_of [] = pos 0
base_of (p ∷ ps) = p.number

-- highest the greatest
abbrev pub greatest : ℤ → List TruePacket → ℤ
greatest z [] = z
greatest z (p ∷ ps) = max_z z (greatest p.number ps)

abbrev pub greatest_in : List TruePacket → ℤ
greatest_in [] = pos 0
greatest_in (p ∷ ps) = greatest p.number ps

-- whether a number is in the list
abbrev pub mem : ℤ → List TruePacket → Bool
mem z [] = false
mem z (p ∷ ps) = eq_z z p.number || mem z ps

-- distinct the number of different ones
abbrev pub distinct_of : List TruePacket → ℕ
distinct_of [] = 0
distinct_of (p ∷ ps) = distinct_of ps + bit (not (mem p.number ps))

-- duplicates the list's length less distinct
abbrev pub duplicates_of : List TruePacket → ℕ
duplicates_of ps = length ps - distinct_of ps

-- each mark counted over the list
abbrev pub tally : ℕ → List TruePacket → ℕ
tally mark [] = 0
tally mark (p ∷ ps) = tally mark ps + bit (eqb p.mark mark)

-- lost = highest - base + 1 - distinct
abbrev pub lost_of : List TruePacket → ℤ
lost_of [] = pos 0
lost_of (p ∷ ps) = greatest_in (p ∷ ps) -ℤ base_of (p ∷ ps) +ℤ pos 1 -ℤ pos (distinct_of (p ∷ ps))

-- the history marks, of the numbers from highest - 99 to highest, exactly those in the list
abbrev pub recent : List TruePacket → ℕ → Bool
recent ps k = mem (greatest_in ps -ℤ pos k) ps

-- ---- as a record, which remembers no number, and as a report carries it

unfoldable pub count_from : ℤ → List TruePacket → Source
count_from base ps = record {
  base = extended base;
  highest = extended (greatest_in ps);
  notect = tally 0 ps;
  ect1 = tally 1 ps;
  ect0 = tally 2 ps;
  ce = tally 3 ps;
  duplicates = duplicates_of ps;
  history = history (recent ps);
  remembered = None;
}

abbrev pub count : List TruePacket → Source
count ps = count_from (base_of ps) ps

unfoldable pub counts_in : List TruePacket → Counts
counts_in ps = record {
  ect0 = tally 2 ps % 2 ^ 32;
  ect1 = tally 1 ps % 2 ^ 32;
  ce = tally 3 ps % 2 ^ 16;
  notect = tally 0 ps % 2 ^ 16;
  lost = modulo (2 ^ 16) (lost_of ps);
  duplicates = duplicates_of ps % 2 ^ 16;
}

-- ---- the same arrivals

-- how often a pair of number and mark is in the list
abbrev pub occurs : TruePacket → List TruePacket → ℕ
occurs p [] = 0
occurs p (q ∷ qs) = occurs p qs + bit (eq_z p.number q.number && eqb p.mark q.mark)

-- each pair of number and mark is in both equally often
abbrev pub SameArrivals : List TruePacket → List TruePacket → Type 0
SameArrivals ps qs = (p : TruePacket) → occurs p ps ≡ occurs p qs
