-- What a block does to a run and its lines, case by case. Assumes nothing.
use Rattle.std.specs.Prelude.{None, Result, Ok, Err}
use Rattle.answers.specs.declared.Unwritten.{Unwritten}
use denote.Enum.Declared.{tag_of}
use mathlib.Core.Path.{◌≡◌, refl, sym, ap, ◌∙◌}
use mathlib.Core.Bool.{true, false, and-true}
use mathlib.Core.List.{List, []}
use Prim.Native.Nat.{ℕ, ◌≤◌, ◌<◌}
use native.Mathlib.Omega.{arith}
use borrow.Author.Tests.{leb-true, le-leb, lt-ltb, le-ltb}
use lib.Dec.{leb}
use lib.ListN.{length, get_or}
use lib.Seq.{sets}
use Rattle.answers.specs.declared.Refusal.{Refusal}
use Rattle.answers.specs.declared.Refusal.TheVariants.{Malformed, Contents, Places}
use Rattle.answers.proofs.Conditions.{all_true}
use Rattle.answers.proofs.Stores.{wrote_all}
use Rattle.source.specs.declared.Totals.{Totals}
use Rattle.source.specs.Totals.{fresh_totals}
use Rattle.format.specs.Forms.{same_form}
use Rattle.format.specs.declared.Form.{Form}
use Rattle.format.proofs.Same.{same_form_lem}
use Rattle.trace.specs.Reading.{block_of, fault_of}
use Rattle.trace.specs.declared.Block.{Block}
use Rattle.trace.specs.declared.Block.TheVariants as read
use Rattle.trace.specs.contracts.Block.{the_type}
use Rattle.walk.specs.Blocks.{joined}
use Rattle.walk.specs.Steps.{Next, goes, refuses}
use Rattle.walk.proofs.Putting.{step_refuses}
use Rattle.mixed.specs.declared.Run.{Run}
use Rattle.mixed.specs.Lines.{lines_in, ssrc_in, totals_in, line_words, in_words}
use Rattle.mixed.specs.Places.{added_by, place_by}
use Rattle.mixed.specs.Blocks.{counted, new_line, held_line, settled_by, settled, next_by, next_of}
use Rattle.mixed.specs.Runs.{start_by, start_of, run_conditions, sound_run, call_next, carries, carried_by, TakesBlock}
use Rattle.mixed.proofs.Cuts.{length-lines}
use Rattle.mixed.proofs.Standing.{found_none, found_there}

-- ---- a sound run

pub record SoundRun (run : Run) (ws : List ℕ) : Type 0 where
  pub room : 208 ≤ length ws
  pub few : run.held ≤ 16

module _ {run : Run} {ws : List ℕ} where
  pub is_sound_lem : sound_run run ws ≡ true → SoundRun run ws
  unfolding sound_run
  is_sound_lem e = record { room = leb-true 208 (length ws) (all_true (run_conditions run ws) 0 e); few = leb-true run.held 16 (all_true (run_conditions run ws) 1 e) }

pub sound_last : (run : Run) (ws : List ℕ) → 208 ≤ length ws → leb run.held 16 ≡ sound_run run ws
unfolding sound_run
sound_last run ws h = rw (le-leb 208 (length ws) h) (sym (and-true (leb run.held 16)))

-- ---- block 0

module _ (b : List ℕ) where
  -- by what it reads as
  pub start_by_lem : {r : Result Block Refusal} → block_of b ≡ r → start_of b ≡ start_by r
  unfolding start_of
  start_by_lem e = ap start_by e

-- another kind than a label's
pub start_other : (x : Block) → tag_of the_type x ≡ 1 → start_by (Ok x) ≡ Err (fault_of (Ok x))
start_other (read.Label form n ssrc) h = absurd (omega arith)
start_other (read.Arrivals form n ssrc) h = refl

-- ---- a later block

module _ (run : Run) (ws b : List ℕ) where
  pub call_malformed : sound_run run ws ≡ false → call_next run ws b ≡ refuses Malformed
  unfolding call_next
  call_malformed e = rw e

  module _ (g : sound_run run ws ≡ true) where
    abbrev lines : List (List ℕ)
    lines = lines_in run.held ws

    call_by : {r : Result Block Refusal} {next : Next (List (List ℕ))} → block_of b ≡ r → next_by in_words run.form b lines r ≡ next → call_next run ws b ≡ next
    unfolding call_next next_of
    call_by e n = rw (g, e) n

    pub call_refused : {refusal : Refusal} → block_of b ≡ Err refusal → call_next run ws b ≡ refuses refusal
    call_refused e = call_by e refl

    pub call_label : {form : Form} {n ssrc : ℕ} → block_of b ≡ Ok (read.Label form n ssrc) → call_next run ws b ≡ refuses Contents
    call_label e = call_by e refl

    module _ {form : Form} {n ssrc : ℕ} (e : block_of b ≡ Ok (read.Arrivals form n ssrc)) where
      pub call_foreign : same_form form run.form ≡ false → call_next run ws b ≡ refuses Contents
      call_foreign h = call_by e (rw h)

      pub call_goes : same_form form run.form ≡ true → call_next run ws b ≡ settled in_words (counted run.form n b) ssrc lines
      call_goes h = call_by e (rw h)

-- arrivals of the trace's form
pub of_trace : (run : Run) (form : Form) (n ssrc : ℕ) → same_form form run.form ≡ true → ◌≡◌ {A = Result Block Refusal} (Ok (read.Arrivals form n ssrc)) (Ok (read.Arrivals run.form n ssrc))
of_trace run form n ssrc h = ap (λ (f : Form). Ok (read.Arrivals f n ssrc)) (same_form_lem form run.form h)

-- ---- the lines behind the arrivals of an SSRC

module _ (count : Totals → Totals) (ssrc n : ℕ) (ws : List ℕ) where
  abbrev held : List (List ℕ)
  held = lines_in n ws

  pub new_full : 16 ≤ n → new_line in_words count ssrc held ≡ refuses Places
  new_full h = rw (le-ltb (length held) 16 (rw (length-lines n ws) h))

  pub new_goes : n < 16 → new_line in_words count ssrc held ≡ goes (added_by ssrc_in (line_words ssrc (count fresh_totals)) held)
  new_goes h = rw (lt-ltb (length held) 16 (rw (length-lines n ws) h))

  module _ (at : ℕ) (e : at ≡ place_by ssrc_in ssrc held) where
    pub settled_new : n ≤ at → settled in_words count ssrc held ≡ new_line in_words count ssrc held
    unfolding settled
    settled_new h = ap (settled_by in_words count ssrc held) (found_none ssrc_in ssrc held (omega (arith, length-lines n ws)))

    pub settled_held : at < n → settled in_words count ssrc held ≡ held_line in_words count ssrc held (totals_in (get_or held at []))
    unfolding settled
    settled_held h =
        ap (settled_by in_words count ssrc held) (found_there ssrc_in ssrc [] held (omega (arith, length-lines n ws)))
        ∙ ap (λ (j : ℕ). held_line in_words count ssrc held (totals_in (get_or held j []))) (sym e)

-- ---- what the call gives

module _ (run : Run) (ws : List ℕ) {next : Next (List (List ℕ))} where
  pub takes_refuses : {refusal : Refusal} → next ≡ refuses refusal → TakesBlock run ws next (record { answer = Err (Unwritten.Refused refusal); run = run }) ws
  takes_refuses e = step_refuses (carries run ws) [] [] (ap (carried_by run ws) e) refl refl

  pub takes_goes : {ls : List (List ℕ)} {n : ℕ} {kept : List ℕ} → next ≡ goes ls → n ≡ length ls → kept ≡ sets ws 0 (joined ls)
      → TakesBlock run ws next (record { answer = Ok 0; run = record { form = run.form; length = run.length; held = n } }) kept
  takes_goes e h k = rw e (record {
    wrote = wrote_all {fault = None} [] [] refl (omega arith) refl refl;
    after = λ i. carries (record { form = run.form; length = run.length; held = h i }) (k i);
  })
