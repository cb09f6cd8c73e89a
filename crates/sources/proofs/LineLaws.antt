-- Laws of the lines of a run and of their rows. Assumes nothing.
use Rattle.std.specs.Prelude.{None}
use mathlib.Core.Path.{◌≡◌, refl, sym, ap, ◌∙◌}
use mathlib.Core.Bool.{true}
use mathlib.Core.List.{List, [], ◌∷◌, ◌++◌, map}
use Prim.Native.Nat.{ℕ, zero, suc, ◌+◌, ◌^◌, ◌≤◌, ◌<◌}
use native.Mathlib.Numerals.{add-one}
use native.Mathlib.Omega.{arith}
use borrow.Author.Tests.{leb-true}
use lib.Dec.{leb}
use lib.ListN.{length, get_or, take, drop, drop_of_length-le}
use lib.Seq.{drop-cons, get_or-take}
use Rattle.answers.specs.Conditions.{all}
use Rattle.answers.proofs.Conditions.{and_left, and_right}
use Rattle.source.specs.Record.{sound}
use Rattle.source.specs.Totals.{most_told}
use Rattle.source.specs.declared.Totals.{Totals}
use Rattle.table.specs.Lines as table
use Rattle.table.specs.Theorems.{row_most}
use Rattle.table.proofs.Faults.{fault_none}
use Rattle.table.proofs.RowFits.{row_fits}
use Rattle.sources.specs.declared.Place.{Place}
use Rattle.sources.specs.declared.runs.Tally.{Tally}
use Rattle.sources.specs.declared.runs.Run.{Run}
use Rattle.sources.specs.Places.{empty_place, sound_place, held_of}
use Rattle.sources.specs.Tables.{lent}
use Rattle.sources.specs.Tallies.{no_tally, sound_tally}
use Rattle.sources.specs.Rows.{Line, line_of, lines_from, lines_of, label_of, row_in, rows_of, no_line, row_of, Judged}
use Rattle.sources.proofs.Checking.{Passed, passed}
use Rattle.sources.proofs.Tallying.{get_sound}
use Rattle.sources.proofs.RunFaults.{GoodRun, good_run, Own, rows_good}

-- ---- the lines

pub lines_long : (ps : List Place) (ts : List Tally) → length (lines_from ps ts) ≡ length ps
unfolding lines_from
lines_long [] ts = refl
lines_long (p ∷ ps) ts = ap suc (lines_long ps (drop 1 ts))

next_tally : (ts : List Tally) (i : ℕ) → get_or (drop 1 ts) i no_tally ≡ get_or ts (suc i) no_tally
next_tally [] i = refl
next_tally (t ∷ ts) i = refl

pub lines_at : (ps : List Place) (ts : List Tally) (i : ℕ) → i < length ps → get_or (lines_from ps ts) i no_line ≡ line_of (get_or ps i empty_place) (get_or ts i no_tally)
unfolding lines_from
lines_at [] ts i h = absurd (omega arith)
lines_at (p ∷ ps) ts zero h = refl
lines_at (p ∷ ps) ts (suc i) h = lines_at ps (drop 1 ts) i (omega arith) ∙ ap (line_of (get_or ps i empty_place)) (next_tally ts i)

all_at : (ps : List Place) (i : ℕ) → all (map sound_place ps) ≡ true → i < length ps → sound_place (get_or ps i empty_place) ≡ true
all_at [] i e h = absurd (omega arith)
all_at (p ∷ ps) zero e h = and_left (sound_place p) (all (map sound_place ps)) e
all_at (p ∷ ps) (suc i) e h = all_at ps i (and_right (sound_place p) (all (map sound_place ps)) e) (omega arith)

-- ---- their rows, one by one

module _ (label : List ℕ) (ls : List Line) (i : ℕ) where
  pub rows_turn : i < length ls → rows_of label (drop i ls) ≡ row_in label (get_or ls i no_line) ++ rows_of label (drop (i + 1) ls)
  unfolding rows_of
  rows_turn h = rw (add-one i, drop-cons ls i no_line h)

  pub rows_done : length ls ≤ i → rows_of label (drop i ls) ≡ []
  unfolding rows_of
  rows_done h = ap (rows_of label) (drop_of_length-le ls {i = i} h)

-- ---- the line of a run that was judged

module _ (run : Run) (zeroth : List ℕ) (n : ℕ) (j : Judged run zeroth n) where
  g : GoodRun run
  g = good_run run (rows_good run zeroth j.good).0

  pub own : Own run zeroth
  own = (rows_good run zeroth j.good).1

  pub its_length : run.length ≤ 502
  its_length = let s = g.short in omega arith

  know : Passed run.table n
  know = passed run.table n (record { kept = g.table; count = j.count })

  pub most : n ≤ 16
  most = omega (arith, know.most, g.count)

  pub many : length (lines_of run) ≡ n
  unfolding lines_of
  many = lines_long (held_of (lent run.table)) run.tallies ∙ sym j.count

  pub rows_over : (i : ℕ) → n ≤ i → rows_of (label_of run zeroth) (drop i (lines_of run)) ≡ []
  rows_over i h = rows_done (label_of run zeroth) (lines_of run) i (omega (arith, many))

  module _ (i : ℕ) (h : i < n) where
    abbrev pub p : Place
    p = get_or run.table.places i empty_place

    abbrev pub t : Tally
    t = get_or run.tallies i no_tally

    abbrev pub totals : Totals
    totals = record { source = p.source; jumped = t.jumped; restarts = t.restarts }

    pub row_is : row_of run i zeroth ≡ table.row_bytes (label_of run zeroth) p.ssrc totals
    unfolding row_of lines_of
    row_is =
        ap (row_in (label_of run zeroth))
        (lines_at (held_of (lent run.table)) run.tallies i (omega (arith, j.count))
        ∙ ap (λ (q : Place). line_of q t) (ap (λ (ps : List Place). get_or ps i empty_place) know.first ∙ get_or-take n run.table.places i empty_place h))

    -- the rows from this one on
    pub rows_next : rows_of (label_of run zeroth) (drop i (lines_of run)) ≡ row_of run i zeroth ++ rows_of (label_of run zeroth) (drop (i + 1) (lines_of run))
    unfolding row_of
    rows_next = rows_turn (label_of run zeroth) (lines_of run) i (omega (arith, many))

    its_tally : sound_tally t ≡ true
    its_tally = get_sound run.tallies i g.tallies

    its_record : sound p.source ≡ true
    its_record =
        sym (ap (λ (q : Place). sound_place q) (get_or-take n run.table.places i empty_place h))
        ∙ all_at (take n run.table.places) i know.sounds (omega (arith, ap length know.first, j.count))

    pub not_refused : table.row_fault (label_of run zeroth) totals ≡ None
    not_refused =
        fault_none (label_of run zeroth) totals its_record own.label
        (leb-true t.jumped most_told (and_left (leb t.jumped most_told) (leb t.restarts most_told) its_tally))
        (leb-true t.restarts most_told (and_right (leb t.jumped most_told) (leb t.restarts most_told) its_tally))

    pub row_long : p.ssrc < 2 ^ 32 → length (row_of run i zeroth) ≤ row_most
    row_long small = omega (arith, ap length row_is, row_fits (label_of run zeroth) p.ssrc totals small not_refused)
