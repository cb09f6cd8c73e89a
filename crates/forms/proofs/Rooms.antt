-- 12 says how much room is missing. Assumes nothing.
use Rattle.std.specs.Prelude.{None, Result, Ok, Err}
use Rattle.answers.specs.declared.Unwritten.{Unwritten}
use Rattle.answers.specs.declared.Refusal.{Refusal}
use mathlib.Core.Path.{◌≡◌, refl, sym, ap, ◌∙◌}
use mathlib.Core.List.{List, ◌++◌}
use Prim.Native.Nat.{ℕ}
use native.Mathlib.Omega.{arith}
use Rattle.answers.specs.Writers.{written, stored}
use Rattle.answers.proofs.Stores.{room_is_exact}
use Rattle.format.specs.declared.Form.{Form}
use Rattle.trace.specs.Places.{zeroth_of}
use Rattle.trace.specs.declared.Zeroth.{Zeroth}
use Rattle.walk.specs.Steps.{goes, refuses, state_after}
use Rattle.forms.specs.Conversions.{begin_fault, begin_bytes, begin_by, begin_of, begin_stored, held_in, bytes_in, carries, carried_by, holding, part_with}
use Rattle.forms.specs.Theorems.{RoomForLabel, LabelRoomIsExact, BlocksRoomIsExact}

-- ---- a later block

pub blocks_room_is_exact : BlocksRoomIsExact
unfolding written
blocks_room_is_exact c part (refuses refusal) old n e = let z : ◌≡◌ {A = ℕ} 0 1 = cc in absurd (omega arith)
blocks_room_is_exact c part (goes records) old n e =
    let exact = room_is_exact None (bytes_in c part (goes records)) old n e in
    let all = held_in c part ++ records in
    record {
      after = carries (holding c all) (part_with c part all);
      given = λ out h. (exact.given out h, ap (state_after (carries c part) (carried_by c part (goes records))) (exact.given out h));
      changed = exact.changed;
      fewer = λ out h. ((exact.fewer out h).0, (exact.fewer out h).1, ap (state_after (carries c part) (carried_by c part (goes records))) (exact.fewer out h).0);
    }

-- ---- block 0

pub label_room_is_exact : LabelRoomIsExact
unfolding written
label_room_is_exact b old n e = go (zeroth_of b) refl
  where
    -- by what block 0 is
    answer_by_lem : {z : Result Zeroth Refusal} → zeroth_of b ≡ z → (out : List ℕ) → begin_of b out ≡ begin_by z (written (begin_fault z) (begin_bytes b z) out)
    answer_by_lem k out = ap (λ (z : Result Zeroth Refusal). begin_by z (written (begin_fault z) (begin_bytes b z) out)) k

    stored_by : {z : Result Zeroth Refusal} → zeroth_of b ≡ z → (out : List ℕ) → begin_stored b out ≡ stored (begin_fault z) (begin_bytes b z) out
    stored_by k out = ap (λ (z : Result Zeroth Refusal). stored (begin_fault z) (begin_bytes b z) out) k

    by_answer : (form : Form) (m ssrc : ℕ) → zeroth_of b ≡ Ok (record { form = form; length = m; ssrc = ssrc }) → (w : Result ℕ Unwritten) → written None (begin_bytes b (Ok (record { form = form; length = m; ssrc = ssrc }))) old ≡ w
        → begin_by (Ok (record { form = form; length = m; ssrc = ssrc })) w ≡ Err (Unwritten.Room n) → RoomForLabel b n
    by_answer form m ssrc k (Ok size) q e = let z : ◌≡◌ {A = ℕ} 0 1 = cc in absurd (omega arith)
    by_answer form m ssrc k (Err (Unwritten.Refused refusal)) q e = let z : ◌≡◌ {A = ℕ} 0 1 = cc in absurd (omega arith)
    by_answer form m ssrc k (Err (Unwritten.Room size)) q e =
        let same : size ≡ n = cc in
        let exact = room_is_exact None (begin_bytes b (Ok (record { form = form; length = m; ssrc = ssrc }))) old n (q ∙ ap (λ (x : ℕ). Err (Unwritten.Room x)) same) in
        record {
          after = record { form = form; ssrc = ssrc; held = 0 };
          given = λ out h. answer_by_lem k out ∙ ap (begin_by (Ok (record { form = form; length = m; ssrc = ssrc }))) (exact.given out h);
          changed = λ out h. stored_by k out ∙ exact.changed out h ∙ ap (begin_bytes b) (sym k);
          fewer = λ out h. (answer_by_lem k out ∙ ap (begin_by (Ok (record { form = form; length = m; ssrc = ssrc }))) (exact.fewer out h).0, stored_by k out ∙ (exact.fewer out h).1);
        }

    go : (z : Result Zeroth Refusal) → zeroth_of b ≡ z → RoomForLabel b n
    go (Ok label) k = by_answer label.form label.length label.ssrc k (written None (begin_bytes b (Ok (record { form = label.form; length = label.length; ssrc = label.ssrc }))) old) refl (sym (answer_by_lem k old) ∙ e)
    go (Err refusal) k = let q = sym (answer_by_lem k old) ∙ e in let z : ◌≡◌ {A = ℕ} 0 1 = cc in absurd (omega arith)
