-- What a refused call changes, and what is repeated after it. Assumes nothing.
use Rattle.std.specs.Prelude.{Option, Some, None}
use mathlib.Core.Path.{◌≡◌, refl, sym, ap, ◌∙◌}
use mathlib.Core.Bool.{Bool, true, false, cond, not}
use mathlib.Core.List.{List}
use Prim.Native.Nat.{ℕ, ◌+◌, ◌≤◌, ◌<◌}
use native.Mathlib.Omega.{arith}
use borrow.Author.Tests.{lt-ltb, le-ltb, ltb-false}
use lib.Dec.{ltb}
use lib.ListN.{length}
use Rattle.answers.specs.declared.Refusal.{Refusal}
use Rattle.answers.specs.declared.Refusal.TheVariants.{Incomplete, Malformed, Limits}
use Rattle.walk.specs.Fitting.{Took}
use Rattle.convert.specs.declared.feeds.Upload.{Upload}
use Rattle.convert.specs.declared.feeds.FeedAnswer.{FeedAnswer}
use Rattle.convert.specs.declared.feeds.FeedAnswer.TheVariants as answer
use Rattle.convert.specs.Tables.{Kept}
use Rattle.convert.specs.Feeds.{TakenBy, most_fed, sound_upload, completed, rest_in, bytes_at, Given, unchanged, repeated, answer_by, fed_by, in_room, feed_by, feed_of, ends_whole, broken, close_by, close_of}
use Rattle.convert.specs.FeedTheorems.{FeedRefused, RefusedIsUnchanged, RoomForFeed, FeedRoomIsExact, ClosedBy, same, breaks, CloseChanges, CloseMayGoOn, Repeats, KeptRepeats, FaultRepeats, CloseRepeats}
use Rattle.convert.proofs.Completing.{within_most}
use Rattle.convert.proofs.SoundUploads.{WellFormed, well_formed, sound_upload_lem, feed_sound, close_sound}
use Rattle.convert.proofs.Staying.{fed_sound}

-- ---- 9, 10 and 12

not_refused : (block n : ℕ) (o : Option Refusal) → FeedRefused (answer_by block n o) → ⊥
not_refused block n None h = h
not_refused block n (Some refusal) h = h

pub refused_is_unchanged : RefusedIsUnchanged
unfolding feed_of
refused_is_unchanged u lent stretch room = by_sound (sound_upload u lent) u.ended
  where
    by_room : (r : List ℕ) (w : Took Kept) (t : Bool) → let g = cond t (unchanged u lent (answer.Room (length w.printed.out))) (fed_by u lent r w) in FeedRefused g.answer → g ≡ unchanged u lent g.answer
    by_room r w true h = refl
    by_room r w false h = absurd (not_refused (u.blocks + w.taken) (length w.printed.out) w.refusal h)

    by_limit : (t : Bool)
        → let g = cond t (unchanged u lent (answer.Refused Limits)) (in_room u lent (rest_in (bytes_at u lent stretch)) (completed u lent (bytes_at u lent stretch)) room) in
        FeedRefused g.answer → g ≡ unchanged u lent g.answer
    by_limit true h = refl
    by_limit false h =
        by_room (rest_in (bytes_at u lent stretch)) (completed u lent (bytes_at u lent stretch)) (ltb room (length (completed u lent (bytes_at u lent stretch)).printed.out)) h

    by_sound : (s : Bool) (e : Option Refusal) → let g = cond (not s) (unchanged u lent (answer.Refused Malformed)) (feed_by u lent stretch room e) in FeedRefused g.answer → g ≡ unchanged u lent g.answer
    by_sound false e h = refl
    by_sound true (Some refusal) h = absurd h
    by_sound true None h = by_limit (ltb most_fed (TakenBy u + length stretch)) h

-- ---- a feed that goes on is sound, goes on and is within the limits

pub record Taken (u : Upload) (lent stretch : List ℕ) : Type 0 where
  pub sound : sound_upload u lent ≡ true
  pub going : u.ended ≡ None
  pub most : TakenBy u + length stretch ≤ most_fed

pub feed_taken : {u : Upload} {lent stretch : List ℕ} (room : ℕ) → Taken u lent stretch
    → feed_of u lent stretch room ≡ in_room u lent (rest_in (bytes_at u lent stretch)) (completed u lent (bytes_at u lent stretch)) room
feed_taken {u} {lent} {stretch} room t = feed_sound u lent stretch room t.sound t.going ∙ within_most u lent stretch room t.most

module _ (u : Upload) (lent stretch : List ℕ) where
  abbrev rows : List ℕ
  rows = (completed u lent (bytes_at u lent stretch)).printed.out

  pub feed_fits : (room : ℕ) → Taken u lent stretch → length rows ≤ room → feed_of u lent stretch room ≡ fed_by u lent (rest_in (bytes_at u lent stretch)) (completed u lent (bytes_at u lent stretch))
  feed_fits room t h = feed_taken room t ∙ rw (le-ltb room (length rows) h)

  pub feed_small : (room : ℕ) → Taken u lent stretch → room < length rows → feed_of u lent stretch room ≡ unchanged u lent (answer.Room (length rows))
  feed_small room t h = feed_taken room t ∙ rw (lt-ltb room (length rows) h)

-- what an answer of 12 or of a faulty block says
pub data Answered (u : Upload) (lent stretch : List ℕ) (room : ℕ) : FeedAnswer → Type 0 where
  refused : {a : FeedAnswer} (refusal : Refusal) → a ≡ answer.Refused refusal → Answered u lent stretch room a
  kept : {a : FeedAnswer} (refusal : Refusal) → sound_upload u lent ≡ true → u.ended ≡ Some refusal → a ≡ answer.Faulty refusal u.blocks 0 → Answered u lent stretch room a
  small : {a : FeedAnswer} → Taken u lent stretch → a ≡ answer.Room (length (completed u lent (bytes_at u lent stretch)).printed.out) → Answered u lent stretch room a
  fits : {a : FeedAnswer} → Taken u lent stretch → length (completed u lent (bytes_at u lent stretch)).printed.out ≤ room → Answered u lent stretch room a

pub answered : (u : Upload) (lent stretch : List ℕ) (room : ℕ) → Answered u lent stretch room (feed_of u lent stretch room).answer
unfolding feed_of
answered u lent stretch room = by_sound (sound_upload u lent) u.ended refl refl
  where
    by_room : (t : Bool) → ltb room (length (completed u lent (bytes_at u lent stretch)).printed.out) ≡ t → Taken u lent stretch
        → Answered u lent stretch room (cond t (unchanged u lent (answer.Room (length (completed u lent (bytes_at u lent stretch)).printed.out))) (fed_by u lent (rest_in (bytes_at u lent stretch)) (completed u lent (bytes_at u lent stretch)))).answer
    by_room true q h = small h refl
    by_room false q h = fits h (ltb-false room (length (completed u lent (bytes_at u lent stretch)).printed.out) q)

    by_limit : (t : Bool) → ltb most_fed (TakenBy u + length stretch) ≡ t → sound_upload u lent ≡ true → u.ended ≡ None
        → Answered u lent stretch room (cond t (unchanged u lent (answer.Refused Limits)) (in_room u lent (rest_in (bytes_at u lent stretch)) (completed u lent (bytes_at u lent stretch)) room)).answer
    by_limit true q s e = refused Limits refl
    by_limit false q s e =
        by_room (ltb room (length (completed u lent (bytes_at u lent stretch)).printed.out)) refl (record { sound = s; going = e; most = ltb-false most_fed (TakenBy u + length stretch) q })

    by_sound : (s : Bool) (e : Option Refusal) → sound_upload u lent ≡ s → u.ended ≡ e → Answered u lent stretch room (cond (not s) (unchanged u lent (answer.Refused Malformed)) (feed_by u lent stretch room e)).answer
    by_sound false e p q = refused Malformed refl
    by_sound true (Some refusal) p q = kept refusal p q refl
    by_sound true None p q = by_limit (ltb most_fed (TakenBy u + length stretch)) refl p q

-- ---- 12 is exact

answer_by_lem : (block n m : ℕ) (o : Option Refusal) → answer_by block n o ≡ answer.Room m → ⊥
answer_by_lem block n m None e = let z : ◌≡◌ {A = ℕ} 0 1 = cc in omega arith
answer_by_lem block n m (Some refusal) e = let z : ◌≡◌ {A = ℕ} 0 1 = cc in omega arith

pub feed_room_is_exact : FeedRoomIsExact
feed_room_is_exact u lent stretch room n e = go (answered u lent stretch room)
  where
    go : Answered u lent stretch room (feed_of u lent stretch room).answer → RoomForFeed u lent stretch n
    go (refused refusal q) = let z : ◌≡◌ {A = ℕ} 0 1 = cc in absurd (omega arith)
    go (kept refusal s k q) = let z : ◌≡◌ {A = ℕ} 0 1 = cc in absurd (omega arith)
    go (small t q) =
        let long : length (completed u lent (bytes_at u lent stretch)).printed.out ≡ n = cc in
        record {
          long = long;
          enough = λ r h. feed_fits u lent stretch r t (omega (arith, long, h));
          fewer = λ r h. feed_small u lent stretch r t (omega (arith, long, h)) ∙ ap (λ (m : ℕ). unchanged u lent (answer.Room m)) long;
        }
    go (fits t h) =
        let w = completed u lent (bytes_at u lent stretch) in
        absurd (answer_by_lem (u.blocks + w.taken) (length w.printed.out) n w.refusal (ap (λ (g : Given). g.answer) (sym (feed_fits u lent stretch room t h)) ∙ e))

-- ---- the closing call

pub close_changes : CloseChanges
unfolding close_of
close_changes u lent = by_sound (sound_upload u lent) u.ended refl
  where
    by_end : (t : Bool) → u.ended ≡ None → ClosedBy u lent (cond t (unchanged u lent (answer.Length 0)) (unchanged (broken u) lent (answer.Faulty Incomplete u.blocks 0)))
    by_end true e = same refl
    by_end false e = breaks e refl

    by_sound : (s : Bool) (e : Option Refusal) → u.ended ≡ e → ClosedBy u lent (cond (not s) (unchanged u lent (answer.Refused Malformed)) (close_by u lent e))
    by_sound false e q = same refl
    by_sound true (Some refusal) q = same refl
    by_sound true None q = by_end (ends_whole u) q

pub close_may_go_on : CloseMayGoOn
close_may_go_on u lent n e = go (close_changes u lent)
  where
    go : ClosedBy u lent (close_of u lent) → close_of u lent ≡ unchanged u lent (answer.Length n)
    go (same q) = q ∙ ap (unchanged u lent) e
    go (breaks g q) =
        let w : answer.Faulty Incomplete u.blocks 0 ≡ answer.Length n = ap (λ (g : Given). g.answer) (sym q) ∙ e in
        let z : ◌≡◌ {A = ℕ} 0 1 = cc in
        absurd (omega arith)

-- ---- a kept refusal is repeated

repeats_of : (g : Given) {refusal : Refusal} {block : ℕ} → sound_upload g.upload g.lent ≡ true → g.upload.ended ≡ Some refusal → g.upload.blocks ≡ block → Repeats g refusal block
repeats_of g {refusal} s e b =
    let same = ap (λ (n : ℕ). unchanged g.upload g.lent (answer.Faulty refusal n 0)) b in
    record { feeds = λ stretch room. feed_sound g.upload g.lent stretch room s e ∙ same; closes = close_sound g.upload g.lent s e ∙ same }

pub kept_repeats : KeptRepeats
kept_repeats u lent refusal s e = repeats_of (repeated u lent refusal) s e refl

-- the answer of a pass that met a faulty block
faulty : (block n : ℕ) {refusal : Refusal} {b m : ℕ} (o : Option Refusal) → answer_by block n o ≡ answer.Faulty refusal b m → (o ≡ Some refusal) × (block ≡ b)
faulty block n None e = let z : ◌≡◌ {A = ℕ} 0 1 = cc in absurd (omega arith)
faulty block n {refusal} {b} (Some r) e = let p : r ≡ refusal = cc in let q : block ≡ b = cc in (ap Some p, q)

pub fault_repeats : FaultRepeats
fault_repeats u lent stretch room refusal block n ol os e = go (answered u lent stretch room)
  where
    go : Answered u lent stretch room (feed_of u lent stretch room).answer → Repeats (feed_of u lent stretch room) refusal block
    go (refused r q) = let z : ◌≡◌ {A = ℕ} 0 1 = cc in absurd (omega arith)
    go (small t q) = let z : ◌≡◌ {A = ℕ} 0 1 = cc in absurd (omega arith)
    go (kept r s k q) =
        let same : r ≡ refusal = cc in
        let number : u.blocks ≡ block = cc in
        rw (feed_sound u lent stretch room s k) (repeats_of (repeated u lent r) s (k ∙ ap Some same) number)
    go (fits t h) =
        let w = completed u lent (bytes_at u lent stretch) in
        let is = feed_fits u lent stretch room t h in
        let f = faulty (u.blocks + w.taken) (length w.printed.out) w.refusal (ap (λ (g : Given). g.answer) (sym is) ∙ e) in
        rw is
        (repeats_of (fed_by u lent (rest_in (bytes_at u lent stretch)) w) (sound_upload_lem (fed_sound u lent stretch (well_formed t.sound) ol os t.most)) f.0 f.1)

pub close_repeats : CloseRepeats
unfolding close_of
close_repeats u lent refusal block n e = by_sound (sound_upload u lent) u.ended refl refl e
  where
    by_end : (t : Bool) → sound_upload u lent ≡ true → let g = cond t (unchanged u lent (answer.Length 0)) (unchanged (broken u) lent (answer.Faulty Incomplete u.blocks 0)) in g.answer ≡ answer.Faulty refusal block n → Repeats g refusal block
    by_end true s e = let z : ◌≡◌ {A = ℕ} 0 1 = cc in absurd (omega arith)
    by_end false s e =
        let same : Incomplete ≡ refusal = cc in
        let number : u.blocks ≡ block = cc in
        let f = well_formed {u = u} {lent = lent} s in
        let b : WellFormed (broken u) lent = record { long = f.long; kept = f.kept; few = f.few; zeros = f.zeros; run = f.run; ended = refl } in
        repeats_of (unchanged (broken u) lent (answer.Faulty Incomplete u.blocks 0)) (sound_upload_lem b) (ap Some same) number

    by_sound : (s : Bool) (e : Option Refusal) → sound_upload u lent ≡ s → u.ended ≡ e
        → let g = cond (not s) (unchanged u lent (answer.Refused Malformed)) (close_by u lent e) in g.answer ≡ answer.Faulty refusal block n → Repeats g refusal block
    by_sound false x p q e = let z : ◌≡◌ {A = ℕ} 0 1 = cc in absurd (omega arith)
    by_sound true (Some r) p q e =
        let same : r ≡ refusal = cc in
        let number : u.blocks ≡ block = cc in
        repeats_of (repeated u lent r) p (q ∙ ap Some same) number
    by_sound true None p q e = by_end (ends_whole u) p e
