-- What a block does to a run, case by case, and what the calls give. Assumes nothing.
use Rattle.std.specs.Prelude.{Option, Some, None, Result, Ok, Err}
use Rattle.answers.specs.declared.Unwritten.{Unwritten}
use denote.Enum.Declared.{tag_of}
use mathlib.Core.Path.{◌≡◌, refl, sym, ap, ◌∙◌}
use mathlib.Core.Bool.{Bool, true, false, cond}
use mathlib.Core.List.{List, [], ◌++◌}
use Prim.Native.Nat.{ℕ, ◌+◌, ◌-◌, ◌≤◌}
use native.Mathlib.Omega.{arith}
use lib.Dec.{ltb}
use lib.ListN.{length, drop}
use lib.Seq.{sets}
use borrow.Author.Tests.{le-ltb}
use borrow.Rule.Slice.PartMut.{put_mid}
use Rattle.answers.specs.Writers.{Wrote, written, stored, size_in}
use Rattle.answers.specs.declared.Refusal.{Refusal}
use Rattle.answers.specs.declared.Refusal.TheVariants.{Contents}
use Rattle.answers.proofs.Stores.{wrote_all}
use Rattle.format.specs.Forms.{shape_of, width, same_form}
use Rattle.format.specs.declared.Form.{Form}
use Rattle.format.proofs.Same.{same_form_lem}
use Rattle.std.proofs.lemmas.Option.{none-some}
use Rattle.trace.specs.Reading.{block_of, fault_of}
use Rattle.trace.specs.Places.{zeroth_by, zeroth_of}
use Rattle.trace.specs.declared.Zeroth.{Zeroth}
use Rattle.trace.specs.declared.Block.{Block}
use Rattle.trace.specs.declared.Block.TheVariants as read
use Rattle.trace.specs.contracts.Block.{the_type}
use Rattle.walk.specs.Steps.{Next, goes, refuses, fault_in, state_after}
use Rattle.walk.proofs.Putting.{step_refuses, part, part_long, part_front}
use Rattle.sources.specs.declared.Stand.{Stand}
use Rattle.sources.specs.declared.Place.{Place}
use Rattle.sources.specs.declared.TableCounted.{TableCounted}
use Rattle.sources.specs.declared.Counted.TheVariants as counted
use Rattle.sources.specs.declared.runs.Tally.{Tally}
use Rattle.sources.specs.declared.runs.Run.{Run}
use Rattle.sources.specs.declared.runs.Step.{Step}
use Rattle.sources.specs.Places.{held, held_of}
use Rattle.sources.specs.Checks.{checked_by}
use Rattle.sources.specs.Tables.{lent, counted_in}
use Rattle.sources.specs.Tallies.{tallied}
use Rattle.sources.specs.Runs.{refusal_in, empty_run, no_run, start_by, start_of, records_in, counted_by, counted_run, next_by, next_of, run_fault, judged, call_next, TakesBlock}
use Rattle.sources.specs.Known.{CountsHere, Renews}

-- ---- block 0

module _ (b : List ℕ) where
  -- by what block 0 is
  abbrev pub begun_by : Result Zeroth Refusal → Step
  begun_by (Ok label) = record { answer = Ok 0; run = empty_run label.form label.length }
  begun_by (Err refusal) = record { answer = Err (Unwritten.Refused refusal); run = no_run }

  pub start_is : {z : Result Zeroth Refusal} → zeroth_of b ≡ z → start_of b ≡ begun_by z
  unfolding start_of zeroth_of
  start_is e = go (block_of b) ∙ ap begun_by e
    where
      go : (r : Result Block Refusal) → start_by r ≡ begun_by (zeroth_by r)
      go (Ok (read.Label form n ssrc)) = refl
      go (Ok (read.Arrivals form n ssrc)) = refl
      go (Err refusal) = refl

  pub start_by_lem : {r : Result Block Refusal} → block_of b ≡ r → start_of b ≡ start_by r
  unfolding start_of
  start_by_lem e = ap start_by e

-- ---- the table's call

module _ (run : Run) (n ssrc : ℕ) (b : List ℕ) (u : TableCounted) (e : u ≡ counted_in run.table ssrc (width (shape_of run.form)) (records_in run.form n b)) where
  by_table : counted_run run n ssrc b ≡ counted_by run u.table u.answer
  unfolding counted_run
  by_table = ap (λ (u : TableCounted). counted_by run u.table u.answer) (sym e)

  pub count_refuses : {r : Refusal} → u.answer ≡ counted.Refused r → counted_run run n ssrc b ≡ refuses r
  count_refuses a = by_table ∙ ap (counted_by run u.table) a

  pub count_goes : {stand : Stand} {jumps restarts : ℕ} → u.answer ≡ counted.Block stand jumps restarts
      → counted_run run n ssrc b ≡ goes (record { form = run.form; length = run.length; table = u.table; tallies = tallied stand jumps restarts run.tallies })
  count_goes a = by_table ∙ ap (counted_by run u.table) a

-- ---- a later block

module _ (run : Run) (b : List ℕ) where
  pub next_by_block : {r : Result Block Refusal} → block_of b ≡ r → next_of run b ≡ next_by run b r
  unfolding next_of
  next_by_block e = ap (next_by run b) e

  -- another kind than that of arrivals
  pub next_other : (x : Block) → tag_of the_type x ≡ 0 → next_by run b (Ok x) ≡ refuses (fault_of (Ok x))
  next_other (read.Label form n ssrc) h = refl
  next_other (read.Arrivals form n ssrc) h = absurd (omega arith)

  module _ {form : Form} {n ssrc : ℕ} (e : block_of b ≡ Ok (read.Arrivals form n ssrc)) where
    next_by_lem : (c : Bool) → same_form form run.form ≡ c → next_of run b ≡ cond c (counted_run run n ssrc b) (refuses Contents)
    unfolding next_of
    next_by_lem c h = ap (next_by run b) e ∙ ap (λ (c : Bool). cond c (counted_run run n ssrc b) (refuses Contents)) h

    pub next_foreign : same_form form run.form ≡ false → next_of run b ≡ refuses Contents
    next_foreign h = next_by_lem false h

    pub next_goes : same_form form run.form ≡ true → next_of run b ≡ counted_run run n ssrc b
    next_goes h = next_by_lem true h

  -- ---- the call

  pub call_refused : {r : Refusal} → Err r ≡ judged run → call_next run b ≡ refuses r
  unfolding call_next
  call_refused {r} e = go (run_fault run) refl e
    where
      go : (f : Option Refusal) → run_fault run ≡ f → Err r ≡ checked_by f (length (held_of (lent run.table))) → call_next run b ≡ refuses r
      go (Some q) h e = let same : q ≡ r = cc in rw h (ap refuses same)
      go None h e = let z : ◌≡◌ {A = ℕ} 0 1 = cc in absurd (omega arith)

  pub call_goes : run_fault run ≡ None → call_next run b ≡ next_of run b
  unfolding call_next
  call_goes e = rw e

-- arrivals of the trace's form
pub of_trace : (own form : Form) (n ssrc : ℕ) → same_form form own ≡ true → ◌≡◌ {A = Result Block Refusal} (Ok (read.Arrivals form n ssrc)) (Ok (read.Arrivals own n ssrc))
of_trace own form n ssrc h =
    let arrivals : Form → Result Block Refusal = λ f. Ok (read.Arrivals f n ssrc) in
    ap arrivals (same_form_lem form own h)

-- ---- what the call gives

module _ (run : Run) {next : Next Run} where
  pub takes_refuses : {refusal : Refusal} → next ≡ refuses refusal → TakesBlock run next (record { answer = Err (Unwritten.Refused refusal); run = run })
  takes_refuses e = step_refuses run [] [] e refl refl

  pub takes_goes : {later : Run} → next ≡ goes later → TakesBlock run next (record { answer = Ok 0; run = later })
  takes_goes e = rw e (record { wrote = wrote_all {fault = None} [] [] refl (omega arith) refl refl; after = refl })

-- and told back, by its answer
module _ (run : Run) (next : Next Run) where
  pub told_refuses : {refusal : Refusal} (s : Step) → TakesBlock run next s → refusal_in s.answer ≡ Some refusal → next ≡ refuses refusal
  unfolding written
  told_refuses {refusal} s t a = go next (sym (ap refusal_in t.wrote.answers) ∙ a)
    where
      go : (next : Next Run) → refusal_in (written (fault_in next) [] []) ≡ Some refusal → next ≡ refuses refusal
      go (goes later) e = absurd (none-some refusal e)
      go (refuses q) e = let same : q ≡ refusal = cc in ap refuses same

  pub told_goes : (s : Step) → TakesBlock run next s → refusal_in s.answer ≡ None → next ≡ goes s.run
  unfolding written
  told_goes s t k = go next t.wrote.answers t.after
    where
      go : (next : Next Run) → s.answer ≡ written (fault_in next) [] [] → s.run ≡ state_after run next s.answer → next ≡ goes s.run
      go (goes later) e a = ap goes (sym (a ∙ ap (state_after run (goes later)) e))
      go (refuses q) e a = let z : ◌≡◌ {A = Option Refusal} None (Some q) = sym k ∙ ap refusal_in e in absurd (none-some q z)

-- ---- a place renewed

pub renews : (form : Form) (p : Place) (t : Tally) (n : ℕ) (b : List ℕ) (r : Option (Place × Tally)) → block_of b ≡ Ok (read.Arrivals form n p.ssrc) → held p ≡ true
    → CountsHere form p t n b r → Renews form p t b r
renews form p t n b (Some (place, tally)) is h c = record { many = n; is = is; stands = h; counted = c }
renews form p t n b None is h c = tt

-- ---- the size of what a writer writes

pub size_told : (new old : List ℕ) (answer : Result ℕ Unwritten) → answer ≡ written None new old → size_in answer ≡ length new
unfolding written
size_told new old answer e = ap size_in e ∙ go (ltb (length old) (length new))
  where
    go : (t : Bool) → size_in (cond t (Err (Unwritten.Room (length new))) (Ok (length new))) ≡ length new
    go true = refl
    go false = refl

-- where there is room, it is written, from a place of an output on
module _ (old row ys : List ℕ) (at : ℕ) (answer : Result ℕ Unwritten) (h : at + length row ≤ length old) (w : Wrote None row (part old at) answer ys) where
  fits : ltb (length (part old at)) (length row) ≡ false
  fits = le-ltb (length (part old at)) (length row) (omega (arith, part_long old at))

  pub put_there : put_mid at (length old - at) old ys ≡ sets old at row
  unfolding stored
  put_there = part_front old at row ys h (w.stores ∙ ap (λ (t : Bool). cond t (part old at) (row ++ drop (length row) (part old at))) fits)

  pub put_size : answer ≡ Ok (length row)
  unfolding written
  put_size = w.answers ∙ ap (λ (t : Bool). cond t (Err (Unwritten.Room (length row))) (Ok (length row))) fits

pub never_other : (w : Result ℕ Unwritten) {n : ℕ} {why : Unwritten} → w ≡ Ok n → w ≡ Err why → ⊥
never_other w e k = let z : ◌≡◌ {A = ℕ} 0 1 = cc in absurd (omega arith)
