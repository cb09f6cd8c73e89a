-- What is fed and then closed is the run in one go. Assumes nothing.
use Rattle.std.specs.Prelude.{Option, Some, None, Result, Ok, Err}
use mathlib.Core.Path.{◌≡◌, refl, sym, ap, ap₂, ◌∙◌, subst⁻¹}
use mathlib.Core.Bool.{Bool, true, false, cond, not, ◌&&◌}
use mathlib.Core.List.{List, [], ◌∷◌, ◌++◌, append-nil, append_assoc}
use Prim.Native.Nat.{ℕ, suc, ◌+◌, ◌≤◌, ◌<◌}
use native.Mathlib.Omega.{arith}
use native.Mathlib.Decide.{dec_le}
use borrow.Author.Tests.{eq-eqb, ne_eqb}
use lib.Dec.{eqb}
use lib.ListN.{length, take, drop}
use lib.Seq.{take_all}
use Rattle.answers.specs.declared.Refusal.{Refusal}
use Rattle.answers.specs.declared.Refusal.TheVariants.{Incomplete}
use Rattle.format.specs.Blocks.{block_bytes}
use Rattle.table.specs.Lines.{head_bytes}
use Rattle.trace.proofs.Placed.{zeroth_short}
use Rattle.walk.specs.Blocks.{blocks_of, joined}
use Rattle.walk.specs.Pieces.{Octets, whole_in}
use Rattle.walk.specs.Programs.{Printed, to_output, both, Ending, Run as Walked, turned, onward, walk, walked, closed, printed_by}
use Rattle.walk.specs.Fitting.{Took, none_taken, front}
use Rattle.walk.proofs.Pieces.{trace_blocks, whole_first, whole_none}
use Rattle.convert.specs.declared.Run.{Run}
use Rattle.convert.specs.declared.feeds.FeedAnswer.TheVariants as answer
use Rattle.convert.specs.Runs.{start_of}
use Rattle.convert.specs.Tables.{Kept, no_run, begun, closing, ecntable, printed}
use Rattle.convert.specs.Feeds.{fresh_upload, most_fed, sound_upload, feeding, through, held_by, completed, rest_in, left_by, ends_whole, broken, Given, unchanged, repeated, fed_by, bytes_at, close_by, close_of}
use Rattle.convert.specs.FeedTheorems.{unfed, FreshLent, ending_in, closed_as, RunInOne, FeedsPrint}
use Rattle.convert.proofs.Cutting.{long_rest}
use Rattle.convert.proofs.FeedAll.{fresh_sound, fresh_ongoing, all_as_one}
use Rattle.convert.proofs.FeedRefusals.{feed_fits}
use Rattle.convert.proofs.Feeding.{label_goes, label_refused}
use Rattle.convert.proofs.Fitted.{kept}
use Rattle.convert.proofs.Steps.{start_by_lem}
use Rattle.convert.proofs.SoundUploads.{well_formed, sound_upload_lem, close_sound}
use Rattle.convert.proofs.Staying.{fed_sound}
use Rattle.convert.proofs.WalkEnds.{last_of, end_of, walk_piece, through_quiet}

-- ---- the run in one go, by its walk

printed_by_lem : (trace rows : List ℕ) {r : Walked Kept} → walked ecntable (blocks_of trace) ≡ r → r.printed ≡ to_output (head_bytes ++ rows) → printed trace ≡ to_output (head_bytes ++ (rows ++ (closing r.ended).out))
unfolding printed printed_by closed
printed_by_lem trace rows {r} e p = ap (λ (r : Walked Kept). both r.printed (closing r.ended)) e ∙ ap (λ (q : Printed). both q (closing r.ended)) p ∙ go r.ended
  where
    go : (o : Option Ending) → both (to_output (head_bytes ++ rows)) (closing o) ≡ to_output (head_bytes ++ (rows ++ (closing o).out))
    go None = ap to_output (append_assoc head_bytes rows [])
    go (Some e) = ap to_output (append_assoc head_bytes rows (closing (Some e)).out)

ending_back : (o : Option Ending) → ending_in (closed_as o) ≡ o
ending_back None = refl
ending_back (Some e) = refl

run_in_one : (trace : List ℕ) (fed shut : Given) {r : Walked Kept} → walked ecntable (blocks_of trace) ≡ r → r.printed ≡ to_output (head_bytes ++ fed.rows) → shut.upload.run ≡ r.state.run
    → shut.answer ≡ closed_as r.ended → RunInOne trace fed shut
run_in_one trace fed shut {r} e p q o = record {
  prints = printed_by_lem trace fed.rows e p ∙ ap (λ (o : Option Ending). to_output (head_bytes ++ (fed.rows ++ (closing o).out))) (sym (ap ending_in o ∙ ending_back r.ended));
  run = q ∙ ap (λ (r : Walked Kept). r.state.run) (sym e);
  answer = o ∙ ap (λ (r : Walked Kept). closed_as r.ended) (sym e);
}

-- ---- the closing call after one feed

module _ (lent trace : List ℕ) (f : FreshLent lent) (o : Octets trace) (few : length trace ≤ most_fed) where
  abbrev k : Kept
  k = held_by fresh_upload lent

  abbrev w : Took Kept
  w = completed fresh_upload lent trace

  abbrev g : Given
  g = fed_by fresh_upload lent (rest_in trace) w

  g_sound : sound_upload g.upload g.lent ≡ true
  g_sound = sound_upload_lem (fed_sound fresh_upload lent trace (well_formed (fresh_sound f)) f.bytes o (omega (arith, few)))

  -- by how the blocks end: a refusal is repeated, and a rest is refused with 1
  shut_refused : {refusal : Refusal} → w.refusal ≡ Some refusal → close_of g.upload g.lent ≡ repeated g.upload g.lent refusal
  shut_refused e = close_sound g.upload g.lent g_sound e

  shut_going : w.refusal ≡ None → close_of g.upload g.lent ≡ close_by g.upload g.lent None
  shut_going e = close_sound g.upload g.lent g_sound e

  -- the closing call where the blocks go on
  shut_last : w.refusal ≡ None → 1 ≤ w.taken
      → let c = close_by g.upload g.lent None in (c.answer ≡ closed_as (last_of (0 + w.taken) (rest_in trace))) × (c.upload.run ≡ w.state.run)
  shut_last e taken-some = go (rest_in trace) refl
    where
      go : (rest : List ℕ) → rest_in trace ≡ rest → let c = close_by g.upload g.lent None in (c.answer ≡ closed_as (last_of (0 + w.taken) rest)) × (c.upload.run ≡ w.state.run)
      go [] q =
          let size : g.upload.kept ≡ 0 = ap (λ (o : Option Refusal). length (left_by (rest_in trace) o)) e ∙ ap length q in
          let whole : ends_whole g.upload ≡ true = rw (eq-eqb g.upload.kept 0 size, ne_eqb (0 + w.taken) 0 (λ z. omega (arith, z, taken-some))) in
          let same = ap (λ (b : Bool). cond b (unchanged g.upload g.lent (answer.Length 0)) (unchanged (broken g.upload) g.lent (answer.Faulty Incomplete g.upload.blocks 0))) whole in
          (ap (λ (c : Given). c.answer) same, ap (λ (c : Given). c.upload.run) same)
      go (b ∷ rest) q =
          let size : g.upload.kept ≡ suc (length rest) = ap (λ (o : Option Refusal). length (left_by (rest_in trace) o)) e ∙ ap length q in
          let part : ends_whole g.upload ≡ false = rw (ne_eqb g.upload.kept 0 (λ z. omega (arith, z, size))) in
          let same = ap (λ (b : Bool). cond b (unchanged g.upload g.lent (answer.Length 0)) (unchanged (broken g.upload) g.lent (answer.Faulty Incomplete g.upload.blocks 0))) part in
          (ap (λ (c : Given). c.answer) same, ap (λ (c : Given). c.upload.run) same)

  -- not one whole block
  short_runs : length trace < block_bytes → RunInOne trace g (close_of g.upload g.lent)
  unfolding completed front walked blocks_of onward
  short_runs h =
      let done : w ≡ none_taken k = ap (λ (bs : List (List ℕ)). through feeding 0 bs k) (whole_none trace h) in
      let e : w.refusal ≡ None = ap (λ (w : Took Kept). w.refusal) done in
      let taken : w.taken ≡ 0 = ap (λ (w : Took Kept). w.taken) done in
      let part : ends_whole g.upload ≡ false = go (eqb g.upload.kept 0) (eq-eqb (0 + w.taken) 0 (omega (arith, taken))) in
      let same = shut_going e ∙ ap (λ (b : Bool). cond b (unchanged g.upload g.lent (answer.Length 0)) (unchanged (broken g.upload) g.lent (answer.Faulty Incomplete g.upload.blocks 0))) part in
      let start : start_of (take block_bytes trace) ≡ Err Incomplete = ap start_of (take_all block_bytes trace (omega (arith, h))) ∙ start_by_lem trace (zeroth_short trace (λ z. omega (arith, z, h))) in
      let one : walked ecntable (blocks_of trace) ≡ record { state = record { run = no_run; zeroth = take block_bytes trace }; printed = to_output head_bytes; ended = Some (record { refusal = Incomplete; block = 0 }) } =
      ap (λ (r : Result Run Refusal). onward (turned 0 (begun (take block_bytes trace) r)) (walk ecntable 1 (blocks_of trace).others)) start in
      let number : 0 + w.taken ≡ 0 = omega (arith, taken) in
      run_in_one trace g (close_of g.upload g.lent) one
      (ap to_output (sym (append-nil head_bytes)) ∙ ap (λ (l : List ℕ). to_output (head_bytes ++ l)) (sym (ap (λ (w : Took Kept). w.printed.out) done)))
      (ap (λ (c : Given). c.upload.run) same ∙ ap (λ (w : Took Kept). w.state.run) done)
      (ap (λ (c : Given). c.answer) same ∙ ap (λ (n : ℕ). answer.Faulty Incomplete n 0) number)
    where
      go : (b : Bool) {c : Bool} → c ≡ true → (b && not c) ≡ false
      go true e = rw e
      go false e = refl

  -- block 0, and the blocks after it
  module _ (h : block_bytes ≤ length trace) where
    abbrev b : List ℕ
    b = take block_bytes trace

    abbrev d : List ℕ
    d = drop block_bytes trace

    done_is : w ≡ through feeding 0 (b ∷ whole_in d) k
    unfolding completed
    done_is = ap (λ (bs : List (List ℕ)). through feeding 0 bs k) (whole_first trace h)

    refused_runs : {refusal : Refusal} → start_of b ≡ Err refusal → RunInOne trace g (close_of g.upload g.lent)
    unfolding walked blocks_of onward
    refused_runs {refusal} q =
        let done = done_is ∙ label_refused k b (whole_in d) q in
        let same = shut_refused {refusal = refusal} (ap (λ (w : Took Kept). w.refusal) done) in
        let one : walked ecntable (blocks_of trace) ≡ record { state = record { run = no_run; zeroth = b }; printed = to_output head_bytes; ended = Some (record { refusal = refusal; block = 0 }) } =
        ap (λ (r : Result Run Refusal). onward (turned 0 (begun b r)) (walk ecntable 1 (blocks_of trace).others)) q in
        let number : 0 + w.taken ≡ 0 = omega (arith, ap (λ (w : Took Kept). w.taken) done) in
        run_in_one trace g (close_of g.upload g.lent) one
        (ap to_output (sym (append-nil head_bytes)) ∙ ap (λ (l : List ℕ). to_output (head_bytes ++ l)) (sym (ap (λ (w : Took Kept). w.printed.out) done)))
        (ap (λ (c : Given). c.upload.run) same ∙ ap (λ (w : Took Kept). w.state.run) done)
        (ap (λ (c : Given). c.answer) same ∙ ap (λ (n : ℕ). answer.Faulty refusal n 0) number)

    started_runs : {run : Run} → start_of b ≡ Ok run → RunInOne trace g (close_of g.upload g.lent)
    unfolding walked blocks_of onward
    started_runs {run} q =
        let v = through ecntable 1 (whole_in d) (kept run b) in
        let done = done_is ∙ label_goes k b (whole_in d) q in
        let taken : 0 + w.taken ≡ 1 + v.taken = omega (arith, ap (λ (w : Took Kept). w.taken) done) in
        let rows : w.printed.out ≡ v.printed.out = ap (λ (w : Took Kept). w.printed.out) done in
        let state : w.state.run ≡ v.state.run = ap (λ (w : Took Kept). w.state.run) done in
        let one : walked ecntable (blocks_of trace) ≡ record { state = v.state; printed = both (to_output head_bytes) v.printed; ended = end_of (1 + v.taken) v.refusal (rest_in d) } =
        ap (λ (r : Result Run Refusal). onward (turned 0 (begun b r)) (walk ecntable 1 (blocks_of trace).others)) q
        ∙ ap (λ (bs : List (List ℕ)). onward (turned 0 (begun b (Ok run))) (walk ecntable 1 bs)) (trace_blocks trace)
        ∙ ap (λ (r : Walked Kept). record { state = r.state; printed = both (to_output head_bytes) r.printed; ended = r.ended }) (walk_piece 1 d (kept run b)) in
        let ends = close_by_lem v.refusal (ap (λ (w : Took Kept). w.refusal) done) v.taken taken in
        run_in_one trace g (close_of g.upload g.lent) one
        ((λ i. record { out = head_bytes ++ sym rows i; err = through_quiet 1 (whole_in d) (kept run b) i }))
        (ends.1 ∙ state) ends.0
      where
        close_by_lem : (o : Option Refusal) → w.refusal ≡ o → (n : ℕ) → 0 + w.taken ≡ 1 + n
            → ((close_of g.upload g.lent).answer ≡ closed_as (end_of (1 + n) o (rest_in d))) × ((close_of g.upload g.lent).upload.run ≡ w.state.run)
        close_by_lem (Some refusal) e n t =
            let same = shut_refused {refusal = refusal} e in
            (ap (λ (c : Given). c.answer) same ∙ ap (λ (n : ℕ). answer.Faulty refusal n 0) t, ap (λ (c : Given). c.upload.run) same)
        close_by_lem None e n t =
            let same = shut_going e in
            let last = shut_last e (omega (arith, t)) in
            (ap (λ (c : Given). c.answer) same ∙ last.0 ∙ ap₂ (λ (n : ℕ) (l : List ℕ). closed_as (last_of n l)) t (long_rest trace h), ap (λ (c : Given). c.upload.run) same ∙ last.1)

  pub one_feed_runs : RunInOne trace g (close_of g.upload g.lent)
  one_feed_runs = go (dec_le block_bytes (length trace))
    where
      by : (h : block_bytes ≤ length trace) (r : Result Run Refusal) → start_of (take block_bytes trace) ≡ r → RunInOne trace g (close_of g.upload g.lent)
      by h (Ok run) q = started_runs h q
      by h (Err refusal) q = refused_runs h q

      go : Dec (block_bytes ≤ length trace) → RunInOne trace g (close_of g.upload g.lent)
      go (yes h) = by h (start_of (take block_bytes trace)) refl
      go (no h) = short_runs (omega arith)

-- ---- however the trace is cut

pub feeds_print : FeedsPrint
feeds_print rooms lent xs f o few enough =
    let trace = joined xs in
    let room = length (completed fresh_upload lent (bytes_at fresh_upload lent trace)).printed.out in
    let all = all_as_one rooms xs 0 (unfed lent) room (fresh_ongoing f (length trace) few) o enough (omega arith) in
    let one = feed_fits fresh_upload lent trace room (record { sound = fresh_sound f; going = refl; most = omega (arith, few) }) (omega arith) in
    let r = subst⁻¹ (λ (g : Given). RunInOne trace g (close_of g.upload g.lent)) one (one_feed_runs lent trace f o few) in
    let same = ap₂ close_of all.upload all.lent in
    record {
      prints = r.prints ∙ ap₂ (λ (l : List ℕ) (c : Given). to_output (head_bytes ++ (l ++ (closing (ending_in c.answer)).out))) (sym all.rows) (sym same);
      run = ap (λ (c : Given). c.upload.run) same ∙ r.run;
      answer = ap (λ (c : Given). c.answer) same ∙ r.answer;
    }
