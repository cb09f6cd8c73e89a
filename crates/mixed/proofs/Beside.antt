-- The run and the lent words of the calls hold the lines of the whole run. Assumes nothing.
use Rattle.std.specs.Prelude.{Ok}
use mathlib.Core.Path.{◌≡◌, refl, sym, ap, ap₂, ◌∙◌}
use mathlib.Core.Bool.{true}
use mathlib.Core.List.{List, map}
use Prim.Native.Nat.{ℕ, ◌*◌, ◌≤◌}
use native.Mathlib.Omega.{arith}
use borrow.Author.Tests.{le-leb, eq-eqb}
use lib.ListN.{length, length-map}
use lib.Seq.{sets, length-sets}
use Rattle.numbers.specs.BigEndian.{word}
use Rattle.format.specs.Blocks.{block_bytes}
use Rattle.format.specs.Forms.{shape_of}
use Rattle.format.specs.declared.Form.{Form}
use Rattle.trace.specs.Contents.{label_ok}
use Rattle.trace.specs.Reading.{block_of}
use Rattle.trace.specs.declared.Block.TheVariants as read
use Rattle.trace.proofs.Accepted.{accepted}
use Rattle.walk.specs.Blocks.{joined}
use Rattle.walk.specs.Steps.{goes}
use Rattle.mixed.specs.declared.Line.{Line}
use Rattle.mixed.specs.declared.Run.{Run}
use Rattle.mixed.specs.Lines.{lines_in, by_value, in_words}
use Rattle.mixed.specs.Blocks.{next_of}
use Rattle.mixed.specs.Runs.{sound_run, call_next, holding}
use Rattle.mixed.specs.Rows.{label_of, own_label}
use Rattle.mixed.specs.Tables.{Kept}
use Rattle.mixed.proofs.Restored.{words_of, stored_back}
use Rattle.mixed.proofs.Kept.{Each, GoodLine, Keeps}
use Rattle.mixed.proofs.InWords.{next_words, next_alike}
use Rattle.mixed.proofs.Onward.{with, begun}

-- the run and the lent words hold the lines of the whole run
pub record Holds (zeroth : List ℕ) (run : Run) (ws : List ℕ) (k : Kept) : Type 0 where
  pub form : run.form ≡ k.form
  pub label : label_of run zeroth ≡ k.label
  pub own : own_label run zeroth ≡ true
  pub held : run.held ≡ length k.lines
  pub words : lines_in run.held ws ≡ map words_of k.lines
  pub room : 13 * 16 ≤ length ws
  pub few : length k.lines ≤ 16
  pub good : Each GoodLine k.lines

module _ {zeroth : List ℕ} {run : Run} {ws : List ℕ} {k : Kept} (h : Holds zeroth run ws k) where
  pub sound : sound_run run ws ≡ true
  unfolding sound_run
  sound = rw (le-leb (13 * 16) (length ws) h.room, le-leb run.held 16 (omega (arith, h.few, h.held)))

  pub call_next_lem : (b : List ℕ) → call_next run ws b ≡ next_words (next_of by_value k.form b k.lines)
  unfolding call_next
  call_next_lem b =
      rw sound (ap₂ (λ (f : Form) (ls : List (List ℕ)). next_of in_words f b ls) h.form h.words ∙ next_alike k.form b k.lines h.good)

  pub still_holds : (ls : List Line) → Keeps (goes ls) → Holds zeroth (holding run (map words_of ls)) (sets ws 0 (joined (map words_of ls))) (with k ls)
  unfolding own_label
  still_holds ls s = record {
    form = h.form;
    label = h.label;
    own = h.own;
    held = length-map ls words_of;
    words = rw (length-map ls words_of) (stored_back ls ws (omega (arith, h.room, s.1)));
    room = omega (arith, h.room, length-sets ws 0 (joined (map words_of ls)));
    few = s.1;
    good = s.0;
  }

pub start_holds : (zeroth ws : List ℕ) (form : Form) (n ssrc : ℕ) → 13 * 16 ≤ length ws → block_of zeroth ≡ Ok (read.Label form n ssrc)
    → Holds zeroth (record { form = form; length = n; held = 0 }) ws (begun zeroth form n)
unfolding own_label lines_in
start_holds zeroth ws form n ssrc room e =
    let a = accepted zeroth e in
    let b = a.block in
    record {
      form = refl;
      label = refl;
      own = rw (
        eq-eqb (length zeroth) block_bytes b.whole,
        eq-eqb (word 2 zeroth 0) (shape_of form).label b.its_kind,
        eq-eqb (word 2 zeroth 2) n b.its_count,
        le-leb n 502 b.room,
        ap label_ok (sym b.place) ∙ a.label,
      );
      held = refl;
      words = refl;
      room = room;
      few = omega arith;
      good = tt;
    }
