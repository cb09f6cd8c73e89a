-- When an upload is sound, test by test, and how it is closed. Assumes nothing.
use Rattle.std.specs.Prelude.{Option, None, Result, Ok, Err}
use Rattle.answers.specs.declared.Refusal.{Refusal}
use denote.Enum.Bare.{sameb}
use mathlib.Core.Path.{◌≡◌, refl, sym, ap, ◌∙◌, subst}
use mathlib.Core.Bool.{Bool, true, false, cond, not, ◌||◌, and-true}
use mathlib.Core.List.{List, [], ◌∷◌}
use Prim.Native.Nat.{ℕ, ◌≤◌, ◌<◌}
use native.Mathlib.Omega.{arith}
use borrow.Author.Tests.{eq-eqb, ne_eqb, eqb-true, leb-true, le-leb, ltb-true, lt-ltb}
use lib.Dec.{eqb, leb}
use lib.ListN.{length, drop}
use Rattle.answers.specs.Conditions.{all}
use Rattle.answers.specs.declared.Refusal.TheVariants.{Incomplete, Malformed}
use Rattle.answers.proofs.Conditions.{all_true, and_left, and_right}
use Rattle.format.specs.Blocks.{block_bytes}
use Rattle.format.specs.Forms.{same_form}
use Rattle.format.proofs.Same.{same_form_lem}
use Rattle.format.specs.contracts.Form.{the_type}
use Rattle.format.specs.declared.Form.{Form}
use Rattle.format.specs.declared.Form.TheVariants.{One, Two}
use Rattle.source.specs.declared.Source.{Source}
use Rattle.source.specs.Record.{arrivals, fresh, has_counted, sound}
use Rattle.source.specs.Totals.{most_told, fresh_totals}
use Rattle.source.proofs.Facts.{fresh_is}
use Rattle.trace.specs.Contents.{every, is_zero}
use Rattle.trace.specs.Places.{zeroth_of}
use Rattle.trace.specs.declared.Zeroth.{Zeroth}
use Rattle.convert.specs.declared.Run.{Run}
use Rattle.convert.specs.declared.feeds.Upload.{Upload}
use Rattle.convert.specs.declared.feeds.Fed.{Fed}
use Rattle.convert.specs.declared.feeds.FeedAnswer.{FeedAnswer}
use Rattle.convert.specs.declared.feeds.FeedAnswer.TheVariants as answer
use Rattle.convert.specs.Runs.{sound_totals, sound_run}
use Rattle.convert.specs.Numbered.{feed_as}
use Rattle.convert.specs.Feeds.{TakenBy, most_fed, lent_bytes, zeroth_in, part_in, own_by, run_ok, keepable, upload_conditions, sound_upload, ends_whole, broken, feed_by, feed_of, close_by, close_of, Given, unchanged, Feeds, Closes}
use Rattle.convert.proofs.Kept.{Good, sound_good, start_good}
use Rattle.convert.proofs.Steps.{start_by_lem}

-- ---- the run

-- a sound record that has counted nothing is fresh
pub none_counted : (s : Source) → arrivals s ≡ 0 → sound s ≡ fresh s
unfolding sound
none_counted s e = go (fresh s) (has_counted s) refl refl
  where
    go : (f h : Bool) → fresh s ≡ f → has_counted s ≡ h → (f || h) ≡ f
    go true h p q = refl
    go false false p q = refl
    go false true p q =
        let is : sound s ≡ true = rw (p, q) in
        sym (sym p ∙ fresh_is s is ∙ eq-eqb (arrivals s) 0 e)

-- what `a != b` says of two forms
pub forms_differ : (a b : Form) → true ≡ not (sameb the_type a b) → same_form a b ≡ false
forms_differ One One e = e
forms_differ One Two e = refl
forms_differ Two One e = refl
forms_differ Two Two e = e

pub forms_agree : (a b : Form) → false ≡ not (sameb the_type a b) → same_form a b ≡ true
forms_agree One One e = refl
forms_agree One Two e = e
forms_agree Two One e = e
forms_agree Two Two e = refl

-- a block 0 that is refused is no run's own
pub own_refused : (run : Run) {z : Result Zeroth Refusal} {refusal : Refusal} → z ≡ Err refusal → own_by run z ≡ false
own_refused run e = ap (own_by run) e

-- a run with its own label is sound
own_good : (run : Run) (b : List ℕ) → own_by run (zeroth_of b) ≡ true → all (sound_totals run.totals) ≡ true → sound_run run b ≡ true
own_good run b own totals = go (zeroth_of b) refl own
  where
    go : (z : Result Zeroth Refusal) → zeroth_of b ≡ z → own_by run z ≡ true → sound_run run b ≡ true
    go (Err refusal) q e = let z : ◌≡◌ {A = ℕ} 0 1 = cc in absurd (omega arith)
    go (Ok own) q e =
        let conditions : List Bool = same_form own.form run.form ∷ eqb own.length run.length ∷ eqb own.ssrc run.ssrc ∷ [] in
        let f = same_form_lem own.form run.form (all_true conditions 0 e) in
        let l = eqb-true own.length run.length (all_true conditions 1 e) in
        let s = eqb-true own.ssrc run.ssrc (all_true conditions 2 e) in
        let same : ◌≡◌ {A = Run} (record { form = own.form; length = own.length; ssrc = own.ssrc; totals = fresh_totals }) (record { form = run.form; length = run.length; ssrc = run.ssrc; totals = fresh_totals }) =
        λ i. record { form = f i; length = l i; ssrc = s i; totals = fresh_totals } in
        let g = subst (λ (r : Run). Good r b) same (start_good b (record { form = own.form; length = own.length; ssrc = own.ssrc; totals = fresh_totals }) (start_by_lem b q)) in
        sound_good (record {
          own = g.own;
          short = g.short;
          label = g.label;
          totals = record {
            good = all_true (sound_totals run.totals) 0 totals;
            jumped = leb-true run.totals.jumped most_told (all_true (sound_totals run.totals) 1 totals);
            restarts = leb-true run.totals.restarts most_told (all_true (sound_totals run.totals) 2 totals);
          };
        })

-- ---- the upload

pub record WellFormed (u : Upload) (lent : List ℕ) : Type 0 where
  pub long : lent_bytes ≤ length lent
  pub kept : u.kept < block_bytes
  pub few : TakenBy u ≤ most_fed
  pub zeros : every is_zero (drop u.kept (part_in lent)) ≡ true
  pub run : run_ok u.run (zeroth_in lent) (eqb u.blocks 0) ≡ true
  pub ended : keepable u.ended ≡ true

module _ {u : Upload} {lent : List ℕ} where
  pub well_formed : sound_upload u lent ≡ true → WellFormed u lent
  unfolding sound_upload
  well_formed e = record {
    long = leb-true lent_bytes (length lent) (all_true (upload_conditions u lent) 0 e);
    kept = ltb-true u.kept block_bytes (all_true (upload_conditions u lent) 1 e);
    few = leb-true (TakenBy u) most_fed (all_true (upload_conditions u lent) 2 e);
    zeros = all_true (upload_conditions u lent) 3 e;
    run = all_true (upload_conditions u lent) 4 e;
    ended = all_true (upload_conditions u lent) 5 e;
  }

  pub sound_upload_lem : WellFormed u lent → sound_upload u lent ≡ true
  unfolding sound_upload
  sound_upload_lem w =
      rw (
        le-leb lent_bytes (length lent) w.long,
        lt-ltb u.kept block_bytes w.kept,
        le-leb (TakenBy u) most_fed w.few,
        w.zeros,
        w.run,
        w.ended,
      )

  -- the run of one that has taken blocks
  pub run_sound : WellFormed u lent → 1 ≤ u.blocks → sound_run u.run (zeroth_in lent) ≡ true
  run_sound w some =
      let late = sym (ap (run_ok u.run (zeroth_in lent)) (ne_eqb u.blocks 0 (λ e. omega (arith, e, some)))) ∙ w.run in
      let own = own_by u.run (zeroth_of (zeroth_in lent)) in
      let totals = all (sound_totals u.run.totals) in
      own_good u.run (zeroth_in lent) (and_left own totals late) (and_right own totals late)

-- the last condition decides
pub upload_last : (u : Upload) (lent : List ℕ) → lent_bytes ≤ length lent → u.kept < block_bytes → leb (TakenBy u) most_fed ≡ true → every is_zero (drop u.kept (part_in lent)) ≡ true
    → run_ok u.run (zeroth_in lent) (eqb u.blocks 0) ≡ true → keepable u.ended ≡ sound_upload u lent
unfolding sound_upload
upload_last u lent a b c d e = rw (le-leb lent_bytes (length lent) a, lt-ltb u.kept block_bytes b, c, d, e) (sym (and-true (keepable u.ended)))

-- ---- the calls, test by test

module _ (u : Upload) (lent : List ℕ) where
  pub feed_malformed : (stretch : List ℕ) (room : ℕ) → sound_upload u lent ≡ false → feed_of u lent stretch room ≡ unchanged u lent (answer.Refused Malformed)
  unfolding feed_of
  feed_malformed stretch room e = rw e

  pub feed_sound : (stretch : List ℕ) (room : ℕ) {e : Option Refusal} → sound_upload u lent ≡ true → u.ended ≡ e → feed_of u lent stretch room ≡ feed_by u lent stretch room e
  unfolding feed_of
  feed_sound stretch room s e =
      ap (λ (t : Bool). cond (not t) (unchanged u lent (answer.Refused Malformed)) (feed_by u lent stretch room u.ended)) s ∙ ap (feed_by u lent stretch room) e

  pub close_malformed : sound_upload u lent ≡ false → close_of u lent ≡ unchanged u lent (answer.Refused Malformed)
  unfolding close_of
  close_malformed e = rw e

  pub close_sound : {e : Option Refusal} → sound_upload u lent ≡ true → u.ended ≡ e → close_of u lent ≡ close_by u lent e
  unfolding close_of
  close_sound s e = ap (λ (t : Bool). cond (not t) (unchanged u lent (answer.Refused Malformed)) (close_by u lent u.ended)) s ∙ ap (close_by u lent) e

pub feeds_unchanged : {g : Given} {u : Upload} {lent : List ℕ} {a : FeedAnswer} (old : List ℕ) {r : Fed} → g ≡ unchanged u lent a → r.answer ≡ a → r.upload ≡ u → Feeds g old r lent old
feeds_unchanged old is a u = rw is (record { answer = a; upload = u; keeps = refl; stores = refl })

pub closes_unchanged : {g : Given} {u : Upload} {lent : List ℕ} {a : FeedAnswer} {r : Fed} → g ≡ unchanged u lent a → r.answer ≡ a → r.upload ≡ u → Closes g r
closes_unchanged is a u = rw is (record { answer = a; upload = u })

-- ---- the closing call

pub closes_broken : (u : Upload) (lent : List ℕ) {r : Fed} → ends_whole u ≡ false → (r.answer ≡ answer.Faulty Incomplete u.blocks 0) × (r.upload ≡ broken u) → Closes (close_by u lent None) r
closes_broken u lent {r} e h =
    let same : close_by u lent None ≡ unchanged (broken u) lent (answer.Faulty Incomplete u.blocks 0) =
    ap (λ (b : Bool). cond b (unchanged u lent (answer.Length 0)) (unchanged (broken u) lent (answer.Faulty Incomplete u.blocks 0))) e in
    record { answer = h.0 ∙ ap (λ (g : Given). g.answer) (sym same); upload = h.1 ∙ ap (λ (g : Given). g.upload) (sym same) }

pub closes_whole : (u : Upload) (lent : List ℕ) → ends_whole u ≡ true → Closes (close_by u lent None) (record { answer = answer.Length 0; upload = u })
closes_whole u lent e =
    let same : close_by u lent None ≡ unchanged u lent (answer.Length 0) =
    ap (λ (b : Bool). cond b (unchanged u lent (answer.Length 0)) (unchanged (broken u) lent (answer.Faulty Incomplete u.blocks 0))) e in
    record { answer = ap (λ (g : Given). g.answer) (sym same); upload = ap (λ (g : Given). g.upload) (sym same) }

-- ---- the same in the paper's terms

pub feeds_numbered : {g : Given} {old lent out : List ℕ} {r : Fed} → Feeds g old r lent out → Feeds g old r lent out × (feed_as r.answer ≡ feed_as g.answer)
feeds_numbered w = (w, ap feed_as w.answer)

pub closes_numbered : {g : Given} {r : Fed} → Closes g r → Closes g r × (feed_as r.answer ≡ feed_as g.answer)
closes_numbered w = (w, ap feed_as w.answer)
