-- An upload that is fed stays sound. Assumes nothing.
use Rattle.std.specs.Prelude.{Option, Some, None, Result, Ok, Err}
use mathlib.Core.Path.{◌≡◌, refl, sym, ap, ◌∙◌}
use mathlib.Core.Bool.{true, false}
use mathlib.Core.List.{List, [], ◌∷◌}
use Prim.Native.Nat.{ℕ, zero, suc, ◌+◌, ◌-◌, ◌*◌, ◌≤◌, ◌<◌}
use native.Mathlib.Omega.{arith}
use borrow.Author.Tests.{eq-eqb, ne_eqb, le-leb}
use lib.Dec.{eqb}
use lib.ListN.{length, drop, replicate, length-append, length-take, length-drop}
use lib.Seq.{drop_at}
use Rattle.answers.specs.Conditions.{all}
use Rattle.answers.specs.declared.Refusal.{Refusal}
use Rattle.format.specs.Blocks.{block_bytes}
use Rattle.format.specs.Forms.{shape_of, same_form}
use Rattle.source.specs.Totals.{most_told, fresh_totals}
use Rattle.numbers.proofs.Octets.{octets_take, octets_drop, octets_append, octets_nil}
use Rattle.answers.proofs.Conditions.{and_left}
use Rattle.trace.specs.Contents.{every, is_zero}
use Rattle.trace.specs.Places.{zeroth_of, later_of}
use Rattle.trace.specs.declared.Zeroth.{Zeroth}
use Rattle.walk.specs.Steps.{Next, goes, refuses}
use Rattle.walk.specs.Pieces.{Octets, wholes, whole_in}
use Rattle.walk.specs.Fitting.{Took, one_more, front}
use Rattle.walk.proofs.Cuts.{Each}
use Rattle.walk.proofs.Fits.{front_few}
use Rattle.walk.proofs.Pieces.{whole_many, wholes_fit, wholes_small, octets_wholes}
use Rattle.convert.specs.declared.Run.{Run}
use Rattle.convert.specs.declared.feeds.Upload.{Upload}
use Rattle.convert.specs.Runs.{start_by, start_of, arrived, next_by, next_of, sound_totals, sound_run}
use Rattle.convert.specs.Tables.{Kept, taken, ecntable}
use Rattle.convert.specs.Feeds.{most_fed, TakenBy, zeroth_in, part_in, kept_in, own_by, run_ok, keepable, feeding, through, held_by, completed, rest_in, left_by, fed_by, bytes_at}
use Rattle.convert.proofs.Fitted.{kept}
use Rattle.convert.proofs.Feeding.{through_later, label_goes, label_refused}
use Rattle.convert.proofs.Kept.{good, sound_good, whole, next_good, start_good}
use Rattle.convert.proofs.Lents.{zeros_hold, zeroth_long, part_long, lent_zeroth, lent_part, lent_long}
use Rattle.convert.proofs.SoundUploads.{WellFormed, run_sound}
use Rattle.convert.proofs.Faults.{FaultOf, through_fault}

-- ---- the run is that of block 0

abbrev Owned : Kept → Type 0
Owned k = (own_by k.run (zeroth_of k.zeroth) ≡ true) × (sound_run k.run k.zeroth ≡ true)

pub record SameLabel (run next : Run) : Type 0 where
  pub form : run.form ≡ next.form
  pub length : run.length ≡ next.length
  pub ssrc : run.ssrc ≡ next.ssrc

next_label : (run : Run) (b : List ℕ) (next : Run) → next_of run b ≡ goes next → SameLabel run next
unfolding next_of arrived
next_label run b next e = go (later_of run.form run.ssrc b) e
  where
    go : (r : Result ℕ Refusal) → next_by run b r ≡ goes next → SameLabel run next
    go (Ok n) e =
        let same : arrived run n b ≡ next = cc in
        record { form = ap (λ (r : Run). r.form) same; length = ap (λ (r : Run). r.length) same; ssrc = ap (λ (r : Run). r.ssrc) same }
    go (Err refusal) e = let z : ◌≡◌ {A = ℕ} 0 1 = cc in absurd (omega arith)

own_same : {run next : Run} → SameLabel run next → (z : Result Zeroth Refusal) → own_by run z ≡ own_by next z
own_same s (Ok label) = λ i. all (same_form label.form (s.form i) ∷ eqb label.length (s.length i) ∷ eqb label.ssrc (s.ssrc i) ∷ [])
own_same s (Err refusal) = refl

turn_owned : (i : ℕ) (k : Kept) (b : List ℕ) → Owned k → Octets b → Owned (ecntable.step i k b).state
turn_owned i k b h o = go (next_of k.run b) refl
  where
    go : (n : Next Run) → next_of k.run b ≡ n → Owned (taken k n).state
    go (goes next) e = (sym (own_same (next_label k.run b next e) (zeroth_of k.zeroth)) ∙ h.0, sound_good (next_good k.run k.zeroth b next o (good h.1) e))
    go (refuses refusal) e = h

through_owned : (i : ℕ) (bs : List (List ℕ)) (k : Kept) → Owned k → Each Octets bs → Owned (through ecntable i bs k).state
unfolding front
through_owned i [] k h o = h
through_owned i (b ∷ bs) k h o =
    let t = ecntable.step i k b in
    let s = turn_owned i k b h o.0 in
    go t.refusal (through ecntable (suc i) bs t.state) s (through_owned (suc i) bs t.state s o.1)
  where
    go : (o : Option Refusal) (w : Took Kept) → Owned (ecntable.step i k b).state → Owned w.state → Owned (one_more (ecntable.step i k b) o w).state
    go None w h e = e
    go (Some refusal) w h e = h

start_owned : (b : List ℕ) (run : Run) → start_of b ≡ Ok run → Owned (kept run b)
unfolding start_of
start_owned b run e = (go (zeroth_of b) refl e, sound_good (start_good b run e))
  where
    go : (z : Result Zeroth Refusal) → zeroth_of b ≡ z → start_by z ≡ Ok run → own_by run (zeroth_of b) ≡ true
    go (Ok own) q e =
        let same : ◌≡◌ {A = Run} (record { form = own.form; length = own.length; ssrc = own.ssrc; totals = fresh_totals }) run = cc in
        ap (own_by run) q
        ∙ ap (λ (r : Run). own_by r (Ok (record { form = own.form; length = own.length; ssrc = own.ssrc }))) (sym same)
        ∙ rw (eq-eqb (shape_of own.form).label (shape_of own.form).label refl, eq-eqb own.length own.length refl, eq-eqb own.ssrc own.ssrc refl)
    go (Err refusal) q e = let z : ◌≡◌ {A = ℕ} 0 1 = cc in absurd (omega arith)

-- what the blocks leave: what there was, while none is taken, and then a run with its own label
pub record Leaves (i : ℕ) (k : Kept) (w : Took Kept) : Type 0 where
  pub none_taken_lem : i + w.taken ≡ 0 → w.state ≡ k
  pub owned : 1 ≤ i + w.taken → Owned w.state

pub through_leaves : (i : ℕ) (bs : List (List ℕ)) (k : Kept) → (1 ≤ i → Owned k) → Each Octets bs → Leaves i k (through feeding i bs k)
unfolding front
through_leaves (suc i) bs k h o = record {
  none_taken_lem = λ e. absurd (omega (arith, e));
  owned = λ s. rw (through_later i bs k) (through_owned (suc i) bs k (h (omega arith)) o);
}
through_leaves zero [] k h o = record { none_taken_lem = λ e. refl; owned = λ s. absurd (omega (arith, s)) }
through_leaves zero (b ∷ bs) k h o = go (start_of b) refl
  where
    go : (r : Result Run Refusal) → start_of b ≡ r → Leaves 0 k (through feeding 0 (b ∷ bs) k)
    go (Ok run) q =
        rw (label_goes k b bs q)
        (record { none_taken_lem = λ e. absurd (omega (arith, e)); owned = λ s. through_owned 1 bs (kept run b) (start_owned b run q) o.1 })
    go (Err refusal) q = rw (label_refused k b bs q) (record { none_taken_lem = λ e. refl; owned = λ s. absurd (omega (arith, s)) })

-- ---- a fed upload

module _ (u : Upload) (lent stretch : List ℕ) (f : WellFormed u lent) (o : Octets lent) (os : Octets stretch) (most : TakenBy u + length stretch ≤ most_fed) where
  abbrev bytes : List ℕ
  bytes = bytes_at u lent stretch

  abbrev done : Took Kept
  done = completed u lent bytes

  abbrev pub left : List ℕ
  left = left_by (rest_in bytes) done.refusal

  pub bytes_long : length bytes ≡ u.kept + length stretch
  bytes_long = length-append (kept_in u lent) stretch ∙ omega (arith, f.kept, length-take u.kept (part_in lent), part_long lent f.long)

  pub bytes_octets : Octets bytes
  bytes_octets = octets_append (kept_in u lent) stretch (octets_take u.kept (part_in lent) (octets_take block_bytes (drop block_bytes lent) (octets_drop block_bytes lent o))) os

  held_owned : 1 ≤ u.blocks → Owned (held_by u lent)
  held_owned has =
      let late = sym (ap (run_ok u.run (zeroth_in lent)) (ne_eqb u.blocks 0 (λ e. omega (arith, e, has)))) ∙ f.run in
      (and_left (own_by u.run (zeroth_of (zeroth_in lent))) (all (sound_totals u.run.totals)) late, run_sound f has)

  leaves : Leaves u.blocks (held_by u lent) done
  unfolding completed
  leaves = through_leaves u.blocks (whole_in bytes) (held_by u lent) held_owned (octets_wholes bytes bytes_octets)

  -- how much is taken and left
  pub taken_many : block_bytes * done.taken ≤ block_bytes * wholes bytes
  unfolding completed
  taken_many = omega (arith, front_few feeding u.blocks (length (whole_in bytes)) (whole_in bytes) (held_by u lent), whole_many bytes)

  left_by_lem : (o : Option Refusal) → (length (left_by (rest_in bytes) o) < block_bytes) × (block_bytes * wholes bytes + length (left_by (rest_in bytes) o) ≤ length bytes)
  unfolding rest_in
  left_by_lem None = let l = length-drop (block_bytes * wholes bytes) bytes in (omega (arith, l, wholes_small bytes), omega (arith, l, wholes_fit bytes))
  left_by_lem (Some refusal) = (omega arith, omega (arith, wholes_fit bytes))

  pub left_small : length left < block_bytes
  left_small = (left_by_lem done.refusal).0

  left_octets_by : (o : Option Refusal) → Octets (left_by (rest_in bytes) o)
  unfolding rest_in
  left_octets_by None = octets_drop (block_bytes * wholes bytes) bytes bytes_octets
  left_octets_by (Some refusal) = octets_nil

  pub left_octets : Octets left
  left_octets = left_octets_by done.refusal

  -- no more is taken than was fed
  pub fed_taken : TakenBy (fed_by u lent (rest_in bytes) done).upload ≤ TakenBy u + length stretch
  fed_taken = omega (arith, taken_many, (left_by_lem done.refusal).1, bytes_long)

  pub zeroth_whole : length done.state.zeroth ≡ block_bytes
  zeroth_whole = go (u.blocks + done.taken) refl
    where
      go : (n : ℕ) → u.blocks + done.taken ≡ n → length done.state.zeroth ≡ block_bytes
      go zero e = ap (λ (k : Kept). length k.zeroth) (leaves.none_taken_lem e) ∙ zeroth_long lent f.long
      go (suc n) e = whole (good (leaves.owned (omega (arith, e))).1)

  run_ok_lem : run_ok done.state.run done.state.zeroth (eqb (u.blocks + done.taken) 0) ≡ true
  run_ok_lem = go (u.blocks + done.taken) refl
    where
      go : (n : ℕ) → u.blocks + done.taken ≡ n → run_ok done.state.run done.state.zeroth (eqb n 0) ≡ true
      go zero e =
          let same = leaves.none_taken_lem e in
          let early : eqb u.blocks 0 ≡ true = eq-eqb u.blocks 0 (omega (arith, e)) in
          ap (λ (k : Kept). run_ok k.run k.zeroth true) same ∙ sym (ap (run_ok u.run (zeroth_in lent)) early) ∙ f.run
      go (suc n) e =
          let own = leaves.owned (omega (arith, e)) in
          let t = (good own.1).totals in
          let late : eqb (suc n) 0 ≡ false = ne_eqb (suc n) 0 (λ e. omega (arith, e)) in
          ap (run_ok done.state.run done.state.zeroth) late
          ∙ rw (own.0, t.good, le-leb done.state.run.totals.jumped most_told t.jumped, le-leb done.state.run.totals.restarts most_told t.restarts)

  ended_ok : (o : Option Refusal) → FaultOf o → keepable o ≡ true
  ended_ok None h = refl
  ended_ok (Some refusal) h = h

  pub fed_sound : WellFormed (fed_by u lent (rest_in bytes) done).upload (fed_by u lent (rest_in bytes) done).lent
  unfolding completed
  fed_sound =
      let z = done.state.zeroth in
      let short : length left ≤ block_bytes = omega (arith, left_small) in
      record {
        long = omega (arith, f.long, lent_long lent f.long z left zeroth_whole short);
        kept = left_small;
        few = omega (arith, taken_many, (left_by_lem done.refusal).1, bytes_long, most);
        zeros =
            ap (λ (l : List ℕ). every is_zero (drop (length left) l)) (lent_part lent f.long z left zeroth_whole short)
            ∙ ap (every is_zero) (drop_at left (replicate (block_bytes - length left) 0) (length left) refl) ∙ zeros_hold (block_bytes - length left);
        run = ap (λ (z : List ℕ). run_ok done.state.run z (eqb (u.blocks + done.taken) 0)) (lent_zeroth lent f.long z left zeroth_whole short) ∙ run_ok_lem;
        ended = ended_ok done.refusal (through_fault u.blocks (whole_in bytes) (held_by u lent));
      }
