-- What ecnlabel prints for a trace's blocks. Assumes nothing.
use Rattle.std.specs.Prelude.{Option, Some, None, Result, Ok, Err}
use mathlib.Core.Path.{◌≡◌, refl, ap, ◌∙◌}
use mathlib.Core.List.{List, [], ◌∷◌, ◌++◌}
use Prim.Native.Nat.{ℕ, suc, ◌+◌}
use native.Mathlib.Omega.{arith}
use lib.ListN.{take}
use lib.Seq.{take-length}
use Rattle.answers.specs.Refusals.{number_of}
use Rattle.answers.specs.declared.Refusal.{Refusal}
use Rattle.format.specs.declared.Form.{Form}
use Rattle.table.specs.Lines.{refused_line, number_line}
use Rattle.trace.specs.Places.{zeroth_of}
use Rattle.trace.specs.Rewriting.{block_spaced, replaced_in}
use Rattle.trace.specs.declared.Zeroth.{Zeroth}
use Rattle.walk.specs.Blocks.{blocks_of, joined}
use Rattle.walk.specs.Programs.{Printed, to_output, both, Turn, ending_at, turned, onward, walk, walked, closed, printed_by}
use Rattle.walk.proofs.Walks.{closed_goes, closed_ends}
use Rattle.copies.specs.Fronts.{fault_of, Sound, sound_by, sound_in}
use Rattle.copies.specs.Theorems.{AllOwn}
use Rattle.copies.proofs.Fronts.{all_sound_lem}
use Rattle.labels.specs.Labelled.{Kept, to_errors, begun_by, turn_by, closing, ecnlabel, labelled}
use Rattle.labels.specs.Theorems.{RefusedLabel, RefusedBlock}
use Rattle.labels.proofs.Turns.{turn_by_lem}

-- what is printed from block i on
abbrev rest : ℕ → List (List ℕ) → Kept → Printed
rest i bs k = closed ecnlabel (walk ecnlabel i bs k)

module _ (i : ℕ) (b : List ℕ) (bs : List (List ℕ)) (k : Kept) where
  rest_by : {o : Option Refusal} → fault_of k.form k.ssrc b ≡ o → rest i (b ∷ bs) k ≡ closed ecnlabel (onward (turned i (turn_by k b o)) (walk ecnlabel (suc i) bs))
  unfolding walk
  rest_by e = ap (λ (t : Turn Kept). closed ecnlabel (onward (turned i t) (walk ecnlabel (suc i) bs))) (turn_by_lem i k b e)

  rest_own : fault_of k.form k.ssrc b ≡ None → rest i (b ∷ bs) k ≡ both (to_output b) (rest (suc i) bs k)
  rest_own e = rest_by e ∙ closed_goes ecnlabel (turned i (turn_by k b None)) (walk ecnlabel (suc i) bs) refl

  rest_refused : {refusal : Refusal} → fault_of k.form k.ssrc b ≡ Some refusal → rest i (b ∷ bs) k ≡ to_errors (refused_line (number_of refusal) i)
  unfolding closed
  rest_refused {refusal} e =
      rest_by e ∙ closed_ends ecnlabel (turned i (turn_by k b (Some refusal))) (walk ecnlabel (suc i) bs) (record { refusal = refusal; block = i }) refl

-- the sound blocks at the front, and then the end, or the line of the next block
pub rest_front : (i : ℕ) (bs : List (List ℕ)) (k : Kept)
    → let s = sound_in k.form k.ssrc bs in
    rest i bs k ≡ record { out = joined (take s.many bs); err = (closing k (ending_at (i + s.many) s.refusal)).err }
unfolding sound_in walk closed
rest_front i [] k = refl
rest_front i (b ∷ bs) k = go (fault_of k.form k.ssrc b) refl (rest_front (suc i) bs k)
  where
    behind : Sound
    behind = sound_in k.form k.ssrc bs

    go : (o : Option Refusal) → fault_of k.form k.ssrc b ≡ o
        → rest (suc i) bs k ≡ record { out = joined (take behind.many bs); err = (closing k (ending_at (suc i + behind.many) behind.refusal)).err }
        → let s = sound_by o behind in
        rest i (b ∷ bs) k ≡ record { out = joined (take s.many (b ∷ bs)); err = (closing k (ending_at (i + s.many) s.refusal)).err }
    go None e back =
        let here : suc i + behind.many ≡ i + suc behind.many = omega arith in
        rest_own i b bs k e
        ∙ ap (both (to_output b)) back
        ∙ ap (λ (n : ℕ). record { out = b ++ joined (take behind.many bs); err = (closing k (ending_at n behind.refusal)).err }) here
    go (Some refusal) e back =
        let here : i ≡ i + 0 = omega arith in
        rest_refused i b bs k e ∙ ap (λ (n : ℕ). to_errors (refused_line (number_of refusal) n)) here

-- ---- all of a trace, by its label

labelled_by : (trace : List ℕ) {r : Result Zeroth Refusal} → zeroth_of (blocks_of trace).zeroth ≡ r
    → labelled trace ≡ closed ecnlabel (onward (turned 0 (begun_by (blocks_of trace).zeroth r)) (walk ecnlabel 1 (blocks_of trace).others))
unfolding labelled printed_by walked
labelled_by trace e = ap (λ (r : Result Zeroth Refusal). closed ecnlabel (onward (turned 0 (begun_by (blocks_of trace).zeroth r)) (walk ecnlabel 1 (blocks_of trace).others))) e

pub refused_label_lem : RefusedLabel
unfolding closed
refused_label_lem trace refusal e =
    labelled_by trace e
    ∙ closed_ends ecnlabel (turned 0 (begun_by (blocks_of trace).zeroth (Err refusal))) (walk ecnlabel 1 (blocks_of trace).others) (record { refusal = refusal; block = 0 }) refl

module _ (trace : List ℕ) {form : Form} {n ssrc : ℕ} (e : zeroth_of (blocks_of trace).zeroth ≡ Ok (record { form = form; length = n; ssrc = ssrc })) where
  abbrev label : Result Zeroth Refusal
  label = Ok (record { form = form; length = n; ssrc = ssrc })

  abbrev begun : Kept
  begun = record { form = form; ssrc = ssrc; replaced = replaced_in (blocks_of trace).zeroth label }

  abbrev first : List ℕ
  first = block_spaced (blocks_of trace).zeroth label

  labelled_front : {s : Sound} → sound_in form ssrc (blocks_of trace).others ≡ s
      → labelled trace ≡ record { out = first ++ joined (take s.many (blocks_of trace).others); err = (closing begun (ending_at (1 + s.many) s.refusal)).err }
  labelled_front q =
      labelled_by trace e
      ∙ closed_goes ecnlabel (turned 0 (begun_by (blocks_of trace).zeroth label)) (walk ecnlabel 1 (blocks_of trace).others) refl
      ∙ ap (both (to_output first)) (rest_front 1 (blocks_of trace).others begun)
      ∙ ap (λ (s : Sound). record { out = first ++ joined (take s.many (blocks_of trace).others); err = (closing begun (ending_at (1 + s.many) s.refusal)).err }) q

  -- if no block is refused
  pub labelled_sound : AllOwn form ssrc (blocks_of trace).others
      → labelled trace ≡ record { out = first ++ joined (blocks_of trace).others; err = number_line (replaced_in (blocks_of trace).zeroth label) }
  labelled_sound own =
      labelled_front (all_sound_lem form ssrc (blocks_of trace).others own)
      ∙ ap (λ (bs : List (List ℕ)). record { out = first ++ joined bs; err = number_line (replaced_in (blocks_of trace).zeroth label) }) (take-length (blocks_of trace).others)

pub refused_block : RefusedBlock
refused_block trace form n ssrc refusal e r =
    let s = sound_in form ssrc (blocks_of trace).others in
    let q : s ≡ record { many = s.many; refusal = Some refusal } = λ i. record { many = s.many; refusal = r i } in
    labelled_front trace e q
