-- What ecnsalvage prints for a trace's blocks. Assumes nothing.
use Rattle.std.specs.Prelude.{Some, None, Result, Ok, Err}
use mathlib.Core.Path.{◌≡◌, refl, sym, ap, ◌∙◌}
use mathlib.Core.List.{List, [], ◌∷◌, append-nil}
use Prim.Native.Nat.{ℕ, suc, ◌+◌}
use native.Mathlib.Omega.{arith}
use native.Mathlib.Decide.{ℕ_discrete}
use lib.ListN.{length}
use Rattle.answers.specs.Refusals.{number_of}
use Rattle.answers.specs.declared.Refusal.{Refusal}
use Rattle.answers.specs.declared.Refusal.TheVariants.{Incomplete}
use Rattle.format.specs.Blocks.{block_bytes}
use Rattle.format.specs.declared.Form.{Form}
use Rattle.table.specs.Lines.{refused_line}
use Rattle.trace.specs.Places.{zeroth_of, later_of}
use Rattle.trace.specs.declared.Zeroth.{Zeroth}
use Rattle.trace.proofs.Placed.{later_short}
use Rattle.walk.specs.Blocks.{blocks_of, joined}
use Rattle.walk.specs.Programs.{Printed, to_output, both, Turn, Ending, turned, onward, walk, walked, closed, printed_by}
use Rattle.walk.specs.Theorems.{Whole}
use Rattle.walk.proofs.Cuts.{blocks_join}
use Rattle.walk.proofs.Walks.{closed_goes, closed_ends}
use Rattle.copies.specs.Fronts.{fault_of}
use Rattle.copies.specs.Theorems.{AllOwn}
use Rattle.copies.proofs.Fronts.{fault_by_lem}
use Rattle.salvage.specs.Salvaged.{Kept, to_errors, begun_by, partly, turn_of, ecnsalvage, salvaged}
use Rattle.salvage.specs.Theorems.{Sorted, done, copy, leave, lines_of, SalvageSorts, WrongLabel}
use Rattle.salvage.proofs.Turns.{turn_own, turn_listed, turn_part}

-- what is printed from block i on
abbrev rest : ℕ → List (List ℕ) → Kept → Printed
rest i bs k = closed ecnsalvage (walk ecnsalvage i bs k)

module _ (i : ℕ) (b : List ℕ) (bs : List (List ℕ)) (k : Kept) where
  rest_by : {t : Turn Kept} → turn_of i k b ≡ t → rest i (b ∷ bs) k ≡ closed ecnsalvage (onward (turned i t) (walk ecnsalvage (suc i) bs))
  unfolding walk
  rest_by e = ap (λ (t : Turn Kept). closed ecnsalvage (onward (turned i t) (walk ecnsalvage (suc i) bs))) e

  rest_own : fault_of k.form k.ssrc b ≡ None → rest i (b ∷ bs) k ≡ both (to_output b) (rest (suc i) bs k)
  rest_own e =
      rest_by (turn_own i k b e) ∙ closed_goes ecnsalvage (turned i (record { state = k; printed = to_output b; refusal = None })) (walk ecnsalvage (suc i) bs) refl

  rest_listed : {refusal : Refusal} → length b ≡ block_bytes → fault_of k.form k.ssrc b ≡ Some refusal
      → rest i (b ∷ bs) k ≡ both (to_errors (refused_line (number_of refusal) i)) (rest (suc i) bs k)
  rest_listed {refusal} long e =
      rest_by (turn_listed i k b long e)
      ∙ closed_goes ecnsalvage (turned i (record { state = k; printed = to_errors (refused_line (number_of refusal) i); refusal = None })) (walk ecnsalvage (suc i) bs) refl

  rest_part : (length b ≡ block_bytes → ⊥) → rest i (b ∷ bs) k ≡ to_errors (refused_line (number_of Incomplete) i)
  unfolding closed
  rest_part short =
      rest_by (turn_part i k b short)
      ∙ closed_ends ecnsalvage (turned i (partly k)) (walk ecnsalvage (suc i) bs) (record { refusal = Incomplete; block = i }) refl

-- ---- each block is copied or listed

record Sorts (i : ℕ) (bs : List (List ℕ)) (k : Kept) : Type 0 where
  copied : List (List ℕ)
  listed : List Ending
  sorted : Sorted k.form k.ssrc i bs copied listed
  add_up : length copied + length listed ≡ length bs
  prints : rest i bs k ≡ record { out = joined copied; err = lines_of listed }

whole_behind : (b : List ℕ) (bs : List (List ℕ)) → Whole (b ∷ bs) → Whole bs
whole_behind b [] h = tt
whole_behind b (c ∷ bs) h = h.1

sorts : (i : ℕ) (bs : List (List ℕ)) (k : Kept) → Whole bs → Sorts i bs k
unfolding walk closed lines_of
sorts i [] k h = record { copied = []; listed = []; sorted = done; add_up = refl; prints = refl }
sorts i (b ∷ bs) k h = go (later_of k.form k.ssrc b) refl (sorts (suc i) bs k (whole_behind b bs h))
  where
    short : (length b ≡ block_bytes → ⊥) → (bs : List (List ℕ)) → Whole (b ∷ bs) → Sorts i (b ∷ bs) k
    short part [] h = record {
      copied = [];
      listed = record { refusal = Incomplete; block = i } ∷ [];
      sorted = leave Incomplete (later_short k.form k.ssrc b part) done;
      add_up = refl;
      prints = rest_part i b [] k part ∙ ap to_errors (sym (append-nil (refused_line (number_of Incomplete) i)));
    }
    short part (c ∷ bs) h = absurd (part h.0)

    by_length : (refusal : Refusal) → later_of k.form k.ssrc b ≡ Err refusal → Sorts (suc i) bs k → Dec (length b ≡ block_bytes) → Sorts i (b ∷ bs) k
    by_length refusal e s (yes long) = record {
      copied = s.copied;
      listed = record { refusal = refusal; block = i } ∷ s.listed;
      sorted = leave refusal e s.sorted;
      add_up = omega (arith, s.add_up);
      prints = rest_listed i b bs k long (fault_by_lem k.form k.ssrc b e) ∙ ap (both (to_errors (refused_line (number_of refusal) i))) s.prints;
    }
    by_length refusal e s (no part) = short part bs h

    go : (r : Result ℕ Refusal) → later_of k.form k.ssrc b ≡ r → Sorts (suc i) bs k → Sorts i (b ∷ bs) k
    go (Ok n) e s = record {
      copied = b ∷ s.copied;
      listed = s.listed;
      sorted = copy n e s.sorted;
      add_up = omega (arith, s.add_up);
      prints = rest_own i b bs k (fault_by_lem k.form k.ssrc b e) ∙ ap (both (to_output b)) s.prints;
    }
    go (Err refusal) e s = by_length refusal e s (ℕ_discrete (length b) block_bytes)

-- ---- all of a trace, by its label

salvaged_by : (trace : List ℕ) {r : Result Zeroth Refusal} → zeroth_of (blocks_of trace).zeroth ≡ r
    → salvaged trace ≡ closed ecnsalvage (onward (turned 0 (begun_by (blocks_of trace).zeroth r)) (walk ecnsalvage 1 (blocks_of trace).others))
unfolding salvaged printed_by walked
salvaged_by trace e = ap (λ (r : Result Zeroth Refusal). closed ecnsalvage (onward (turned 0 (begun_by (blocks_of trace).zeroth r)) (walk ecnsalvage 1 (blocks_of trace).others))) e

pub salvaged_labelled : (trace : List ℕ) {form : Form} {n ssrc : ℕ} → zeroth_of (blocks_of trace).zeroth ≡ Ok (record { form = form; length = n; ssrc = ssrc })
    → salvaged trace ≡ both (to_output (blocks_of trace).zeroth) (rest 1 (blocks_of trace).others (record { form = form; ssrc = ssrc }))
salvaged_labelled trace {form} {n} {ssrc} e =
    salvaged_by trace e
    ∙ closed_goes ecnsalvage (turned 0 (begun_by (blocks_of trace).zeroth (Ok (record { form = form; length = n; ssrc = ssrc })))) (walk ecnsalvage 1 (blocks_of trace).others) refl

pub salvage_sorts : SalvageSorts
salvage_sorts trace form n ssrc e =
    let s = sorts 1 (blocks_of trace).others (record { form = form; ssrc = ssrc }) (blocks_join trace).others in
    record {
      copied = s.copied;
      listed = s.listed;
      sorted = s.sorted;
      add_up = s.add_up;
      prints = salvaged_labelled trace e ∙ ap (both (to_output (blocks_of trace).zeroth)) s.prints;
    }

pub wrong_label : WrongLabel
unfolding closed
wrong_label trace refusal e =
    salvaged_by trace e
    ∙ closed_ends ecnsalvage (turned 0 (begun_by (blocks_of trace).zeroth (Err refusal))) (walk ecnsalvage 1 (blocks_of trace).others) (record { refusal = refusal; block = 0 }) refl

-- ---- blocks that are all a trace's own

pub rest_copies : (i : ℕ) (bs : List (List ℕ)) (k : Kept) → AllOwn k.form k.ssrc bs → rest i bs k ≡ to_output (joined bs)
unfolding walk closed
rest_copies i [] k own = refl
rest_copies i (b ∷ bs) k own = rest_own i b bs k own.0 ∙ ap (both (to_output b)) (rest_copies (suc i) bs k own.1)

pub sorted_own : {form : Form} {ssrc i : ℕ} {bs copied : List (List ℕ)} {listed : List Ending} → Sorted form ssrc i bs copied listed → AllOwn form ssrc copied
sorted_own done = tt
sorted_own {form} {ssrc} (copy {b = b} n e s) = (fault_by_lem form ssrc b e, sorted_own s)
sorted_own (leave refusal e s) = sorted_own s
