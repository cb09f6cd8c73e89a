-- An upload in lent words, or refusal 9, and how long the rows of a feed are. Assumes nothing.
use Rattle.std.specs.Prelude.{Option, Some, None}
use mathlib.Core.Path.{◌≡◌, refl, sym, ap, ◌∙◌, subst⁻¹}
use mathlib.Core.Bool.{Bool, true, false, cond}
use mathlib.Core.List.{List, ◌++◌}
use Prim.Native.Nat.{ℕ, ◌+◌, ◌-◌, ◌^◌, ◌≤◌, ◌<◌}
use native.Mathlib.Omega.{arith}
use borrow.Author.Tests.{ltb-true, ltb-false}
use lib.Dec.{ltb}
use lib.IntN.{ℤ, pos, neg_ℤ}
use lib.ListN.{length, get_or, take, drop, replicate, length-take, length-drop}
use lib.Seq.{sets}
use Rattle.answers.specs.declared.Refusal.{Refusal}
use Rattle.answers.specs.declared.Refusal.TheVariants as refusal
use Rattle.format.specs.Blocks.{block_bytes}
use Rattle.numbers.proofs.Octets.{octets_append, octets_take, octets_drop, octets_zeros}
use Rattle.walk.specs.Fitting.{Took}
use Rattle.walk.specs.Pieces.{Octets, wholes}
use Rattle.convert.specs.declared.feeds.Upload.{Upload}
use Rattle.convert.specs.declared.feeds.FeedAnswer.TheVariants as answer
use Rattle.convert.specs.declared.feeds.Fed.{Fed}
use Rattle.convert.specs.Tables.{Kept}
use Rattle.convert.specs.Feeds.{most_fed, TakenBy, zeroth_in, part_in, kept_in, sound_upload, rest_in, in_limits}
use Rattle.convert.specs.Feeds.{feed_by, feed_of, close_of, Given, unchanged, answer_by, fed_by, Feeds, Closes}
use Rattle.convert.specs.Passes.{done_by, added_by, kept_more}
use Rattle.convert.proofs.Lents.{more_kept}
use Rattle.convert.proofs.SoundUploads.{WellFormed, well_formed, feed_malformed, feed_sound}
use Rattle.convert.proofs.Completing.{rest, filled, added_is, can_add, past_most, within_most, kept_more_lem}
use Rattle.convert.proofs.Longest.{done_few}
use Rattle.lent.specs.RunWords.{run_with}
use Rattle.lent.specs.FeedWords.{upload_with, upload_of, loaded, feed_words}
use Rattle.lent.proofs.FeedLaws.{held, other, words_of}
use Rattle.capi.specs.Codes.{Leaves}
use Rattle.capi.specs.Feeds.{words_by, fed_of, feed_code, feed_size, FeedsWords, closed_of, close_code, ClosesWords}

-- ---- the calls on the upload in the words

module _ (words lent : List ℕ) where
  pub feed_other : (stretch old : List ℕ) → loaded words ≡ None → FeedsWords words lent stretch old (neg_ℤ (pos 9)) words lent old
  unfolding fed_of
  feed_other stretch old e =
      let is : fed_of words lent stretch (length old) ≡ unchanged (upload_of words) lent (answer.Refused refusal.Malformed) = rw (other words e) in
      record {
        answers = ap (λ (g : Given). feed_code g.answer) (sym is);
        keeps = sym (ap (λ (b : Bool). cond b (feed_words (fed_of words lent stretch (length old)).upload) words) (other words e));
        holds = ap (λ (g : Given). g.lent) (sym is);
        stores = ap (λ (g : Given). g.rows ++ drop (length g.rows) old) (sym is);
      }

  pub close_other : loaded words ≡ None → ClosesWords words lent 9 words
  unfolding closed_of
  close_other e =
      let is : closed_of words lent ≡ unchanged (upload_of words) lent (answer.Refused refusal.Malformed) = rw (other words e) in
      record {
        answers = ap (λ (g : Given). close_code g.answer) (sym is);
        keeps = sym (ap (λ (b : Bool). cond b (feed_words (closed_of words lent).upload) words) (other words e));
      }

  module _ {u : Upload} (e : loaded words ≡ Some u) where
    pub fed_is : (stretch : List ℕ) (room : ℕ) → fed_of words lent stretch room ≡ feed_of u lent stretch room
    unfolding fed_of
    fed_is stretch room = let h = held words e in rw h.0 (ap (λ (x : Upload). feed_of x lent stretch room) (sym h.1))

    pub closed_is : closed_of words lent ≡ close_of u lent
    unfolding closed_of
    closed_is = let h = held words e in rw h.0 (ap (λ (x : Upload). close_of x lent) (sym h.1))

    -- the words of an upload
    pub words_after_lem : (g : Given) → words_by words g ≡ feed_words g.upload
    words_after_lem g = ap (λ (b : Bool). cond b (feed_words g.upload) words) (held words e).0

    pub feed_held : (stretch old : List ℕ) {fed : Fed} {r : ℤ} {left kept out : List ℕ} → Feeds (feed_of u lent stretch (length old)) old fed kept out
        → Leaves (feed_code fed.answer) (feed_words fed.upload) r left → FeedsWords words lent stretch old r left kept out
    feed_held stretch old f l =
        let is = fed_is stretch (length old) in
        record {
          answers = l.answers ∙ ap feed_code f.answer ∙ ap (λ (g : Given). feed_code g.answer) (sym is);
          keeps = l.stores ∙ ap feed_words f.upload ∙ ap (λ (g : Given). feed_words g.upload) (sym is)
              ∙ sym (words_after_lem (fed_of words lent stretch (length old)));
          holds = f.keeps ∙ ap (λ (g : Given). g.lent) (sym is);
          stores = f.stores ∙ ap (λ (g : Given). g.rows ++ drop (length g.rows) old) (sym is);
        }

    pub close_held : {fed : Fed} {r : ℕ} {left : List ℕ} → Closes (close_of u lent) fed → Leaves (close_code fed.answer) (feed_words fed.upload) r left
        → ClosesWords words lent r left
    close_held f l = record {
      answers = l.answers ∙ ap close_code f.answer ∙ ap (λ (g : Given). close_code g.answer) (sym closed_is);
      keeps = l.stores ∙ ap feed_words f.upload ∙ ap (λ (g : Given). feed_words g.upload) (sym closed_is) ∙ sym (words_after_lem (closed_of words lent));
    }

-- with an equal answer
pub feeds_as : {words lent stretch old left kept out : List ℕ} {r told : ℤ} → r ≡ told → FeedsWords words lent stretch old told left kept out
    → FeedsWords words lent stretch old r left kept out
feeds_as e f = record { answers = e ∙ f.answers; keeps = f.keeps; holds = f.holds; stores = f.stores }

pub closes_as : {words lent left : List ℕ} {r told : ℕ} → r ≡ told → ClosesWords words lent told left → ClosesWords words lent r left
closes_as e f = record { answers = e ∙ f.answers; keeps = f.keeps }

-- an upload in words has an SSRC of 32 bits
pub upload_ssrc : (words : List ℕ) {u : Upload} → loaded words ≡ Some u → u.run.ssrc < 2 ^ 32
unfolding upload_with run_with
upload_ssrc words e =
    let h = held words e in
    omega (arith, ap (λ (x : Upload). x.run.ssrc) h.1, ltb-true (get_or words 2 0) (2 ^ 32) (words_of words h.0).ssrc)

-- ---- the rows of a feed are short

-- a length that comes with an answer
answer_size : (block n : ℕ) (o : Option Refusal) → feed_size (answer_by block n o) ≡ n
answer_size block n None = refl
answer_size block n (Some refusal) = refl

added_size : (u : Upload) (lent rest : List ℕ) (room : ℕ) → feed_size (added_by u lent rest room).answer ≡ length (done_by u lent rest).printed.out
added_size u lent rest room = go (ltb room n)
  where
    done : Took Kept
    done = done_by u lent rest

    n : ℕ
    n = length done.printed.out

    go : (b : Bool) → feed_size
        (cond b (unchanged u (sets lent (block_bytes + u.kept) (replicate (block_bytes - u.kept) 0)) (answer.Room n))
        (fed_by u lent (rest_in rest) done)).answer ≡ n
    go true = refl
    go false = answer_size (u.blocks + done.taken) n done.refusal

module _ (u : Upload) (lent stretch old : List ℕ) (small : u.run.ssrc < 2 ^ 32) (ol : Octets lent) (os : Octets stretch) where
  filled_octets : (w : WellFormed u lent) (long : block_bytes ≤ u.kept + length stretch) → Octets (filled u lent stretch w long)
  filled_octets w long =
      let start = take (block_bytes - u.kept) stretch in
      let is = more_kept lent u.kept w.long (omega (arith, w.kept)) w.zeros start (omega (arith, w.kept, length-take (block_bytes - u.kept) stretch)) in
      let kept = kept_in u lent ++ start in
      let part = octets_append (kept_in u lent) start
      (octets_take u.kept (part_in lent) (octets_take block_bytes (drop block_bytes lent) (octets_drop block_bytes lent ol)))
      (octets_take (block_bytes - u.kept) stretch os) in
      let zeros : List ℕ = replicate (block_bytes - length kept) 0 in
      subst⁻¹ (λ (l : List ℕ). Octets l) is
      (octets_append (zeroth_in lent) ((kept ++ zeros) ++ drop 1024 lent) (octets_take block_bytes lent ol)
      (octets_append (kept ++ zeros) (drop 1024 lent) (octets_append kept zeros part (octets_zeros (block_bytes - length kept))) (octets_drop 1024 lent ol)))

  complete_size : (w : WellFormed u lent) (long : block_bytes ≤ u.kept + length stretch) → TakenBy u + length stretch ≤ most_fed
      → feed_size (in_limits u lent stretch (length old)).answer < 2 ^ 54
  unfolding wholes
  complete_size w long few =
      let is = within_most u lent stretch (length old) few ∙ sym (added_is u lent stretch w long (length old)) in
      let r = rest u lent stretch w long in
      let f = filled u lent stretch w long in
      let bound = done_few u f r (can_add u lent stretch w long (omega arith)).ready small (filled_octets w long)
      (octets_drop (block_bytes - u.kept) stretch os) in
      omega (arith, ap (λ (g : Given). feed_size g.answer) is, added_size u f r (length old), bound, length-drop (block_bytes - u.kept) stretch)

  going_size : (w : WellFormed u lent) → u.ended ≡ None → feed_size (in_limits u lent stretch (length old)).answer < 2 ^ 54
  going_size w going = go (ltb most_fed (TakenBy u + length stretch)) refl (ltb (u.kept + length stretch) block_bytes) refl
    where
      go : (a : Bool) → ltb most_fed (TakenBy u + length stretch) ≡ a → (b : Bool) → ltb (u.kept + length stretch) block_bytes ≡ b
          → feed_size (in_limits u lent stretch (length old)).answer < 2 ^ 54
      go true p b q = omega
          (arith, ap (λ (g : Given). feed_size g.answer) (past_most u lent stretch (length old) (ltb-true most_fed (TakenBy u + length stretch) p)))
      go false p true q =
          let fed : Fed = record { answer = answer.Length 0; upload = kept_more u (length stretch) } in
          let few = ltb-false most_fed (TakenBy u + length stretch) p in
          let short = ltb-true (u.kept + length stretch) block_bytes q in
          let f = kept_more_lem u lent stretch old {r = fed} {after = sets lent (block_bytes + u.kept) stretch} w going (omega (arith, few)) short
          (refl, refl, refl) in
          omega (arith, ap feed_size f.answer)
      go false p false q =
          let few = ltb-false most_fed (TakenBy u + length stretch) p in
          let long = ltb-false (u.kept + length stretch) block_bytes q in
          complete_size w (omega (arith, long)) (omega (arith, few))

  sound_size : (e : Option Refusal) → u.ended ≡ e → (w : WellFormed u lent) → feed_size (feed_by u lent stretch (length old) e).answer < 2 ^ 54
  sound_size (Some refusal) q w = omega arith
  sound_size None q w = going_size w q

  pub feed_size_lem : feed_size (feed_of u lent stretch (length old)).answer < 2 ^ 54
  feed_size_lem = go (sound_upload u lent) refl
    where
      go : (b : Bool) → sound_upload u lent ≡ b → feed_size (feed_of u lent stretch (length old)).answer < 2 ^ 54
      go false e = omega (arith, ap (λ (g : Given). feed_size g.answer) (feed_malformed u lent stretch (length old) e))
      go true e = omega (arith, ap (λ (g : Given). feed_size g.answer) (feed_sound u lent stretch (length old) e refl), sound_size u.ended refl (well_formed e))
