-- A run that a block gives is sound. Assumes nothing.
use Rattle.std.specs.Prelude.{None, Result, Ok, Err}
use Rattle.answers.specs.declared.Refusal.{Refusal}
use mathlib.Core.Path.{◌≡◌, refl, sym, ap, ◌∙◌, subst}
use mathlib.Core.Bool.{true, and-true}
use mathlib.Core.List.{List}
use Prim.Native.Nat.{ℕ, ◌*◌, ◌^◌, ◌≤◌, ◌<◌}
use native.Mathlib.Omega.{arith}
use borrow.Author.Tests.{eqb-true, leb-true, le-leb, eq-eqb}
use lib.Dec.{eqb, leb}
use lib.ListN.{length, take, drop}
use Rattle.answers.specs.Conditions.{all}
use Rattle.answers.proofs.Conditions.{all_true}
use Rattle.numbers.proofs.BigEndian.{Octets}
use Rattle.format.specs.Blocks.{block_bytes, body_at, body_bytes}
use Rattle.format.specs.Forms.{shape_of, width}
use Rattle.numbers.specs.BigEndian.{word}
use Rattle.source.specs.declared.BlockCount.{BlockCount}
use Rattle.source.specs.declared.BlockCount.TheVariants.{Counted, Refused}
use Rattle.source.specs.declared.Totals.{Totals}
use Rattle.source.specs.Record.{sound}
use Rattle.source.specs.Blocks.{block_count}
use Rattle.source.specs.Totals.{most_told, fresh_totals, with_block}
use Rattle.source.proofs.Totalled.{SoundTotals, fresh_totals_lem, next_sound}
use Rattle.trace.specs.Contents.{label_ok}
use Rattle.trace.specs.Places.{zeroth_of, later_of}
use Rattle.trace.specs.declared.Zeroth.{Zeroth}
use Rattle.numbers.proofs.Octets.{octets_take, octets_drop}
use Rattle.trace.proofs.Accepted.{accepted}
use Rattle.trace.proofs.Placed.{zeroth_label}
use Rattle.table.specs.Lines.{row_fault}
use Rattle.table.specs.Theorems.{row_most}
use Rattle.table.proofs.Faults.{fault_none}
use Rattle.table.proofs.RowFits as table
use Rattle.walk.specs.Steps.{goes}
use Rattle.convert.specs.declared.Run.{Run}
use Rattle.convert.specs.Runs.{label_of, row_of, start_by, start_of, arrived, next_by, next_of, own_label, sound_totals, run_conditions, sound_run}

-- ---- what is known of a sound run

pub record Good (run : Run) (zeroth : List ℕ) : Type 0 where
  pub own : all (own_label run zeroth) ≡ true
  pub short : run.length ≤ body_bytes
  pub label : label_ok (label_of run zeroth) ≡ true
  pub totals : SoundTotals run.totals

module _ {run : Run} {zeroth : List ℕ} where
  pub good : sound_run run zeroth ≡ true → Good run zeroth
  unfolding sound_run
  good e =
      let totals = all_true (run_conditions run zeroth) 3 e in
      record {
        own = all_true (run_conditions run zeroth) 0 e;
        short = leb-true run.length body_bytes (all_true (run_conditions run zeroth) 1 e);
        label = all_true (run_conditions run zeroth) 2 e;
        totals = record {
          good = all_true (sound_totals run.totals) 0 totals;
          jumped = leb-true run.totals.jumped most_told (all_true (sound_totals run.totals) 1 totals);
          restarts = leb-true run.totals.restarts most_told (all_true (sound_totals run.totals) 2 totals);
        };
      }

  pub sound_good : Good run zeroth → sound_run run zeroth ≡ true
  unfolding sound_run
  sound_good g =
      rw (
        g.own,
        le-leb run.length body_bytes g.short,
        g.label,
        g.totals.good,
        le-leb run.totals.jumped most_told g.totals.jumped,
        le-leb run.totals.restarts most_told g.totals.restarts,
      )

  pub whole : Good run zeroth → length zeroth ≡ block_bytes
  whole g = eqb-true (length zeroth) block_bytes (all_true (own_label run zeroth) 0 g.own)

  -- its row is not refused
  pub row_fits : Good run zeroth → row_fault (label_of run zeroth) run.totals ≡ None
  row_fits g = fault_none (label_of run zeroth) run.totals g.totals.good g.label g.totals.jumped g.totals.restarts

-- ---- the last condition decides

module _ (run : Run) (zeroth : List ℕ) where
  pub own_last : length zeroth ≡ block_bytes → word 2 zeroth 0 ≡ (shape_of run.form).label → word 2 zeroth 2 ≡ run.length
      → eqb (word 4 zeroth 4) run.ssrc ≡ all (own_label run zeroth)
  own_last h k n = rw (eq-eqb (length zeroth) block_bytes h, eq-eqb (word 2 zeroth 0) (shape_of run.form).label k, eq-eqb (word 2 zeroth 2) run.length n) (sym (and-true (eqb (word 4 zeroth 4) run.ssrc)))

  pub sound_last : all (own_label run zeroth) ≡ true → run.length ≤ body_bytes → label_ok (label_of run zeroth) ≡ true
      → all (sound_totals run.totals) ≡ sound_run run zeroth
  unfolding sound_run
  sound_last o l t = rw (o, le-leb run.length body_bytes l, t) (sym (and-true (all (sound_totals run.totals))))

pub totals_last : (t : Totals) → sound t.source ≡ true → t.jumped ≤ most_told → leb t.restarts most_told ≡ all (sound_totals t)
totals_last t e j = rw (e, le-leb t.jumped most_told j) (sym (and-true (leb t.restarts most_told)))

-- ---- the run after a block

block_totals : (t : Totals) (w : ℕ) (bytes : List ℕ) → Octets bytes → SoundTotals t → SoundTotals (with_block t (block_count t.source w bytes))
block_totals t w bytes o g = go (block_count t.source w bytes) refl
  where
    go : (c : BlockCount) → block_count t.source w bytes ≡ c → SoundTotals (with_block t c)
    go (Counted next jumps restarts) e = record { good = next_sound t.source w bytes e o; jumped = omega arith; restarts = omega arith }
    go (Refused refusal same) e = g

pub arrived_good : (run : Run) (zeroth : List ℕ) (n : ℕ) (b : List ℕ) → Octets b → Good run zeroth → Good (arrived run n b) zeroth
unfolding arrived
arrived_good run zeroth n b o g = record {
  own = g.own;
  short = g.short;
  label = g.label;
  totals = block_totals run.totals (width (shape_of run.form)) (take (n * width (shape_of run.form)) (drop body_at b)) (octets_take (n * width (shape_of run.form)) (drop body_at b) (octets_drop body_at b o)) g.totals;
}

pub next_good : (run : Run) (zeroth b : List ℕ) (next : Run) → Octets b → Good run zeroth → next_of run b ≡ goes next → Good next zeroth
unfolding next_of
next_good run zeroth b next o g e = go (later_of run.form run.ssrc b) e
  where
    go : (r : Result ℕ Refusal) → next_by run b r ≡ goes next → Good next zeroth
    go (Ok n) e = let same : arrived run n b ≡ next = cc in subst (λ (r : Run). Good r zeroth) same (arrived_good run zeroth n b o g)
    go (Err refusal) e = let z : ◌≡◌ {A = ℕ} 0 1 = cc in absurd (omega arith)

-- it is of the same source
pub next_ssrc : (run : Run) (b : List ℕ) (next : Run) → next_of run b ≡ goes next → next.ssrc ≡ run.ssrc
unfolding next_of arrived
next_ssrc run b next e = go (later_of run.form run.ssrc b) e
  where
    go : (r : Result ℕ Refusal) → next_by run b r ≡ goes next → next.ssrc ≡ run.ssrc
    go (Ok n) e = let same : arrived run n b ≡ next = cc in sym (ap (λ (r : Run). r.ssrc) same)
    go (Err refusal) e = let z : ◌≡◌ {A = ℕ} 0 1 = cc in absurd (omega arith)

-- and its row is no longer than the longest
pub row_long : (run : Run) (zeroth : List ℕ) → run.ssrc < 2 ^ 32 → Good run zeroth → length (row_of run zeroth) ≤ row_most
unfolding row_of
row_long run zeroth small g = table.row_fits (label_of run zeroth) run.ssrc run.totals small (row_fits g)

-- ---- the run that block 0 starts

pub start_good : (zeroth : List ℕ) (run : Run) → start_of zeroth ≡ Ok run → Good run zeroth
unfolding start_of
start_good b run e = go (zeroth_of b) refl e
  where
    go : (r : Result Zeroth Refusal) → zeroth_of b ≡ r → start_by r ≡ Ok run → Good run b
    go (Ok own) q e =
        let a = accepted b (zeroth_label b q) in
        let k = a.block in
        let same : ◌≡◌ {A = Run} (record { form = own.form; length = own.length; ssrc = own.ssrc; totals = fresh_totals }) run = cc in
        subst (λ (r : Run). Good r b) same
        (record {
          own = rw (eq-eqb (length b) block_bytes k.whole, eq-eqb (word 2 b 0) (shape_of own.form).label k.its_kind, eq-eqb (word 2 b 2) own.length k.its_count, eq-eqb (word 4 b 4) own.ssrc k.its_ssrc);
          short = k.room;
          label = ap label_ok (sym k.place) ∙ a.label;
          totals = fresh_totals_lem;
        })
    go (Err refusal) q e = let z : ◌≡◌ {A = ℕ} 0 1 = cc in absurd (omega arith)
