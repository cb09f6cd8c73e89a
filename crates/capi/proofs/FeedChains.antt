-- Calls of flasknib_feed in turn, from words that are all zero: they are the feeds of the upload in the words. Assumes nothing.
use Rattle.std.specs.Prelude.{Option, Some, None, Result, Ok, Err}
use mathlib.Core.Path.{◌≡◌, refl, sym, ap, ◌∙◌, subst}
use mathlib.Core.Bool.{Bool, true, false, cond, not}
use mathlib.Core.List.{List, [], ◌∷◌, ◌++◌, append-nil}
use Prim.Native.Nat.{ℕ, zero, suc, ◌+◌, ◌*◌, ◌/◌, ◌^◌, ◌≤◌, ◌<◌}
use native.Mathlib.Omega.{arith}
use borrow.Author.Tests.{eq-eqb, ne_eqb}
use lib.Dec.{eqb, ltb, lt→ltb}
use lib.IntN.{ℤ, pos}
use lib.ListN.{length, get_or, take, drop, length-append}
use lib.Seq.{take_at, drop_at}
use Rattle.answers.specs.declared.Refusal.{Refusal}
use Rattle.answers.specs.declared.Refusal.TheVariants as refusal
use Rattle.answers.proofs.Conditions.{and_left, and_right, all_true, true_is}
use Rattle.format.specs.Blocks.{block_bytes, body_at}
use Rattle.format.specs.Forms.{shape_of, width}
use Rattle.format.proofs.Same.{same_form_lem}
use Rattle.numbers.proofs.BigEndian.{word_lt}
use Rattle.numbers.proofs.Integers.{eq_z_eq}
use Rattle.numbers.proofs.Octets.{octets_take, octets_drop, octets_append}
use Rattle.source.specs.declared.BlockCount.{BlockCount}
use Rattle.source.specs.declared.BlockCount.TheVariants.{Counted, Refused}
use Rattle.source.specs.declared.Source.{Source}
use Rattle.source.specs.Record.{arrivals, distinct, zeros, fresh, sound, wire_number}
use Rattle.source.specs.Arrivals.{arrival, after}
use Rattle.source.specs.Blocks.{Packet, packets, jump, restart, count_all, block_count}
use Rattle.source.specs.Totals.{with_block}
use Rattle.source.proofs.Afresh.{typed_stays}
use Rattle.source.proofs.Facts.{facts, sound_has_counted}
use Rattle.source.proofs.Totalled.{block_counted}
use Rattle.trace.specs.Places.{zeroth_of, later_of}
use Rattle.trace.specs.Contents.{every, is_zero}
use Rattle.trace.specs.declared.Zeroth.{Zeroth}
use Rattle.trace.proofs.Accepted.{accepted}
use Rattle.trace.proofs.Placed.{zeroth_label}
use Rattle.walk.specs.Blocks.{blocks_of, joined}
use Rattle.walk.specs.Pieces.{Octets, whole_in}
use Rattle.walk.specs.Programs.{Ending, to_output, walked}
use Rattle.walk.specs.Fitting.{Took, one_more, front}
use Rattle.walk.proofs.Cuts.{Each}
use Rattle.walk.proofs.Pieces.{octets_wholes}
use Rattle.convert.specs.declared.Run.{Run}
use Rattle.convert.specs.declared.feeds.Upload.{Upload}
use Rattle.convert.specs.declared.feeds.FeedAnswer.TheVariants as answer
use Rattle.convert.specs.Runs.{start_by, start_of, arrived, next_by, next_of, sound_totals}
use Rattle.table.specs.Lines.{head_bytes}
use Rattle.convert.specs.Tables.{Kept, taken, closing, ecntable, no_run}
use Rattle.convert.specs.Feeds.{TakenBy, most_fed, zeroth_in, part_in, kept_in, is_no_run, own_by, run_ok, keepable}
use Rattle.convert.specs.Feeds.{sound_upload, labelled, feeding, through, held_by, completed, rest_in, fed_by, in_room}
use Rattle.convert.specs.Feeds.{bytes_at, feed_by, feed_of, ends_whole, broken, close_by, close_of, Given, unchanged}
use Rattle.convert.specs.FeedTheorems.{FeedRefused, FreshLent, unfed, and_fed, feed_all, ending_in, closed_as}
use Rattle.convert.proofs.SoundUploads.{well_formed}
use Rattle.convert.proofs.FeedRefusals.{refused_is_unchanged}
use Rattle.convert.proofs.FeedAll.{Ongoing, feed_ongoing, fresh_ongoing, cuts_agree}
use Rattle.convert.proofs.FeedPrints.{feeds_print}
use Rattle.lent.specs.SourceWords.{source_words, FitsWord}
use Rattle.lent.specs.FeedWords.{upload_of, loaded, feed_words}
use Rattle.lent.proofs.FeedLaws.{held, other, feed_back, feed_words_back, fresh_is_zeros}
use Rattle.capi.specs.Feeds.{fed_of, closed_of, close_code}
use Rattle.capi.specs.FeedChains.{Holding, zero_words, and_fed_words, feed_chain, closed_words}
use Rattle.capi.specs.FeedChains.{end_number, WordsInOne, WordsPrint, WordsAgree, RefusedLeavesWords}
use Rattle.capi.proofs.FeedSteps.{fed_is, closed_is, words_after_lem}

-- ---- what fits its words stays so: the SSRC, and the remembered number

abbrev pub Typed : Run → Type 0
Typed run = (run.ssrc < 2 ^ 32) × (wire_number run.totals.source.remembered ≡ true)

pub all_typed : (ps : List Packet) (s : Source) (jumps restarts : ℕ) {next : Source} {j r : ℕ}
    → wire_number s.remembered ≡ true → count_all ps s jumps restarts ≡ Counted next j r → wire_number next.remembered ≡ true
unfolding count_all
all_typed [] s jumps restarts {next} w e = let same : s ≡ next = cc in rw same at w
all_typed (p ∷ ps) s jumps restarts w e =
    let a = arrival s p.wire p.mark in
    all_typed ps (after a) (jumps + jump a) (restarts + restart a) (typed_stays s p.wire p.mark w) e

arrived_typed : (run : Run) (n : ℕ) (b : List ℕ) → Typed run → Typed (arrived run n b)
unfolding arrived
arrived_typed run n b h = (h.0, go (block_count run.totals.source w bytes) refl)
  where
    w : ℕ
    w = width (shape_of run.form)

    bytes : List ℕ
    bytes = take (n * w) (drop body_at b)

    go : (c : BlockCount) → block_count run.totals.source w bytes ≡ c → wire_number (with_block run.totals c).source.remembered ≡ true
    go (Counted next jumps restarts) e = all_typed (packets w (length bytes / w) bytes) run.totals.source 0 0 h.1 (block_counted run.totals.source w bytes e).is
    go (Refused refusal s) e = h.1

pub step_typed : (i : ℕ) (k : Kept) (b : List ℕ) → Typed k.run → Typed (ecntable.step i k b).state.run
unfolding next_of
step_typed i k b h = go (later_of k.run.form k.run.ssrc b)
  where
    go : (r : Result ℕ Refusal) → Typed (taken k (next_by k.run b r)).state.run
    go (Ok n) = arrived_typed k.run n b h
    go (Err refusal) = h

pub start_typed : (k : Kept) (b : List ℕ) → Octets b → Typed k.run → Typed (labelled k b (start_of b)).state.run
unfolding start_of
start_typed k b o h = go (zeroth_of b) refl
  where
    go : (z : Result Zeroth Refusal) → zeroth_of b ≡ z → Typed (labelled k b (start_by z)).state.run
    go (Ok label) q = (omega (arith, (accepted b (zeroth_label b q)).block.its_ssrc, word_lt b 4 4 o), refl)
    go (Err refusal) q = h

turn_typed : (i : ℕ) (k : Kept) (b : List ℕ) → Octets b → Typed k.run → Typed (feeding.step i k b).state.run
turn_typed zero k b o h = start_typed k b o h
turn_typed (suc i) k b o h = step_typed (suc i) k b h

through_typed : (i : ℕ) (bs : List (List ℕ)) (k : Kept) → Each Octets bs → Typed k.run → Typed (through feeding i bs k).state.run
unfolding front
through_typed i [] k o h = h
through_typed i (b ∷ bs) k o h =
    let t = feeding.step i k b in
    let s = turn_typed i k b o.0 h in
    go t.refusal (through feeding (suc i) bs t.state) s (through_typed (suc i) bs t.state o.1 s)
  where
    go : (r : Option Refusal) (w : Took Kept) → Typed (feeding.step i k b).state.run → Typed w.state.run → Typed (one_more (feeding.step i k b) r w).state.run
    go None w h e = e
    go (Some refusal) w h e = h

module _ (u : Upload) (lent stretch : List ℕ) (room : ℕ) (ol : Octets lent) (os : Octets stretch) (h : Typed u.run) where
  abbrev bytes : List ℕ
  bytes = bytes_at u lent stretch

  feed_typed : Typed (feed_of u lent stretch room).upload.run
  unfolding feed_of completed
  feed_typed = go (not (sound_upload u lent)) u.ended
    where
      done : Typed (completed u lent bytes).state.run
      done =
          through_typed u.blocks (whole_in bytes) (held_by u lent)
          (octets_wholes bytes
          (octets_append (kept_in u lent) stretch
          (octets_take u.kept (part_in lent) (octets_take block_bytes (drop block_bytes lent) (octets_drop block_bytes lent ol))) os)) h

      fits : (b : Bool) → Typed
          (cond b (unchanged u lent (answer.Room (length (completed u lent bytes).printed.out)))
          (fed_by u lent (rest_in bytes) (completed u lent bytes))).upload.run
      fits true = h
      fits false = done

      within : (b : Bool) → Typed
          (cond b (unchanged u lent (answer.Refused refusal.Limits)) (in_room u lent (rest_in bytes) (completed u lent bytes) room)).upload.run
      within true = h
      within false = fits (ltb room (length (completed u lent bytes).printed.out))

      go : (b : Bool) (e : Option Refusal) → Typed (cond b (unchanged u lent (answer.Refused refusal.Malformed)) (feed_by u lent stretch room e)).upload.run
      go true e = h
      go false (Some refusal) = h
      go false None = within (ltb most_fed (TakenBy u + length stretch))

-- ---- an upload that is sound and so typed reads back

fits : (n : ℕ) {z : ℤ} → z ≡ pos n → n < 2 ^ 63 → FitsWord z
fits n e h = rw e (record { least = record { le = tt }; most = record { lt = lt→ltb n (2 ^ 63) h } })

fresh_fits : (s : Source) → fresh s ≡ true → FitsWord s.base.0 × FitsWord s.highest.0
unfolding fresh
fresh_fits s f = (
  fits 0 (eq_z_eq s.base.0 (pos 0) (true_is _ (all_true (zeros s) 0 f))) (omega arith),
  fits 0 (eq_z_eq s.highest.0 (pos 0) (true_is _ (all_true (zeros s) 1 f))) (omega arith),
)

pub sound_fits : (s : Source) → sound s ≡ true → FitsWord s.base.0 × FitsWord s.highest.0
sound_fits s e = go (fresh s) refl
  where
    go : (b : Bool) → fresh s ≡ b → FitsWord s.base.0 × FitsWord s.highest.0
    go true f = fresh_fits s f
    go false f =
        let k = facts s (sound_has_counted s e f) in
        let d : distinct s ≤ arrivals s = omega arith in
        (fits k.low k.base (omega (arith, k.wire)), fits k.high k.highest (omega (arith, k.spread, k.most, k.wire)))

-- what the soundness of an upload says of its run
run_fits : (n : ℕ) (u : Upload) (lent : List ℕ) → u.blocks ≡ n → run_ok u.run (zeroth_in lent) (eqb u.blocks 0) ≡ true
    → FitsWord u.run.totals.source.base.0 × FitsWord u.run.totals.source.highest.0 × (u.blocks ≡ 0 → u.run.form ≡ no_run.form)
run_fits zero u lent q e =
    let first = subst (λ (b : Bool). run_ok u.run (zeroth_in lent) b ≡ true) (eq-eqb u.blocks 0 q) e in
    let None = and_left _ (every is_zero (zeroth_in lent)) first in
    let fit = fresh_fits u.run.totals.source (all_true (is_no_run u.run) 3 None) in
    (fit.0, fit.1, λ z. same_form_lem u.run.form no_run.form (all_true (is_no_run u.run) 0 None))
run_fits (suc n) u lent q e =
    let later = subst (λ (b : Bool). run_ok u.run (zeroth_in lent) b ≡ true) (ne_eqb u.blocks 0 (λ z. omega arith)) e in
    let totals = and_right (own_by u.run (zeroth_of (zeroth_in lent))) _ later in
    let fit = sound_fits u.run.totals.source (all_true (sound_totals u.run.totals) 0 totals) in
    (fit.0, fit.1, λ z. absurd (omega arith))

sound_back : (u : Upload) (lent : List ℕ) → sound_upload u lent ≡ true → Typed u.run → loaded (feed_words u) ≡ Some u
sound_back u lent s h =
    let w = well_formed s in
    let f = run_fits u.blocks u lent refl w.run in
    feed_back u h.0 f.0 f.1 h.1 w.ended f.2

-- ---- the calls in turn

-- what a caller holds of an upload
abbrev holding_of : Given → Holding
holding_of g = record { words = feed_words g.upload; lent = g.lent; rows = g.rows }

-- one call more
fed_held : (g : Given) (stretch : List ℕ) (room : ℕ) → loaded (feed_words g.upload) ≡ Some g.upload
    → and_fed_words (holding_of g) stretch room ≡ holding_of (and_fed g stretch room)
fed_held g stretch room e =
    let words = feed_words g.upload in
    let is = fed_is words g.lent e stretch room in
    λ i. record {
      words = (words_after_lem words g.lent e (fed_of words g.lent stretch room) ∙ ap (λ (x : Given). feed_words x.upload) is) i;
      lent = ap (λ (x : Given). x.lent) is i;
      rows = g.rows ++ ap (λ (x : Given). x.rows) is i;
    }

chain_is : (rooms : ℕ → ℕ) (xs : List (List ℕ)) (i : ℕ) (g : Given) → Ongoing g.upload g.lent (length (joined xs)) → Octets (joined xs) → Typed g.upload.run
    → (feed_chain rooms i (holding_of g) xs ≡ holding_of (feed_all rooms i g xs))
    × (sound_upload (feed_all rooms i g xs).upload (feed_all rooms i g xs).lent ≡ true) × Typed (feed_all rooms i g xs).upload.run
unfolding feed_chain feed_all
chain_is rooms [] i g h o t = (refl, h.sound, t)
chain_is rooms (x ∷ xs) i g h o t =
    let tail = joined xs in
    let long = length-append x tail in
    let ox = subst Octets (take_at x tail (length x) refl) (octets_take (length x) (x ++ tail) o) in
    let ot = subst Octets (drop_at x tail (length x) refl) (octets_drop (length x) (x ++ tail) o) in
    let here : Ongoing g.upload g.lent (length x + length tail) = record { sound = h.sound; bytes = h.bytes; most = omega (arith, h.most, long) } in
    let next = feed_ongoing g.upload g.lent x ox (length tail) (rooms i) here in
    let typed = feed_typed g.upload g.lent x (rooms i) h.bytes ox t in
    let one = fed_held g x (rooms i) (sound_back g.upload g.lent h.sound t) in
    let rec = chain_is rooms xs (suc i) (and_fed g x (rooms i)) next ot typed in
    (ap (λ (k : Holding). feed_chain rooms (suc i) k xs) one ∙ rec.0, rec.1, rec.2)

-- ---- from words that are all zero

module _ (rooms : ℕ → ℕ) (lent : List ℕ) (xs : List (List ℕ)) (f : FreshLent lent) (o : Octets (joined xs)) (few : length (joined xs) ≤ most_fed) where
  abbrev end : Given
  end = feed_all rooms 0 (unfed lent) xs

  all_held : (feed_chain rooms 0 (zero_words lent) xs ≡ holding_of end) × (sound_upload end.upload end.lent ≡ true) × Typed end.upload.run
  all_held =
      let c = chain_is rooms xs 0 (unfed lent) (fresh_ongoing f (length (joined xs)) few) o (omega arith, refl) in
      (ap (λ (w : List ℕ). feed_chain rooms 0 (record { words = w; lent = lent; rows = [] }) xs) (sym fresh_is_zeros) ∙ c.0, c.1, c.2)

-- a closing call's upload is sound and typed too
close_sound : (u : Upload) (lent : List ℕ) → sound_upload u lent ≡ true → Typed u.run
    → loaded (feed_words (close_of u lent).upload) ≡ Some (close_of u lent).upload
unfolding close_of
close_sound u lent s h = go (not (sound_upload u lent)) u.ended
  where
    back : (e : Option Refusal) → keepable e ≡ true
        → loaded (feed_words (record { run = u.run; blocks = u.blocks; kept = u.kept; ended = e })) ≡ Some
        (record { run = u.run; blocks = u.blocks; kept = u.kept; ended = e })
    back e k =
        let w = well_formed s in
        let f = run_fits u.blocks u lent refl w.run in
        feed_back (record { run = u.run; blocks = u.blocks; kept = u.kept; ended = e }) h.0 f.0 f.1 h.1 k f.2

    whole : (b : Bool) → let g = cond b (unchanged u lent (answer.Length 0)) (unchanged (broken u) lent (answer.Faulty refusal.Incomplete u.blocks 0)) in
        loaded (feed_words g.upload) ≡ Some g.upload
    whole true = sound_back u lent s h
    whole false = back (Some refusal.Incomplete) refl

    go : (b : Bool) (e : Option Refusal)
        → let g = cond b (unchanged u lent (answer.Refused refusal.Malformed)) (close_by u lent e) in loaded (feed_words g.upload) ≡ Some g.upload
    go true e = sound_back u lent s h
    go false (Some refusal) = sound_back u lent s h
    go false None = whole (ends_whole u)

-- the block of its answer is the upload's
close_block : (u : Upload) (lent : List ℕ) (fault : Refusal) (block n : ℕ) → (close_of u lent).answer ≡ answer.Faulty fault block n
    → (close_of u lent).upload.blocks ≡ block
unfolding close_of
close_block u lent fault block n = go (not (sound_upload u lent)) u.ended
  where
    whole : (b : Bool) → let g = cond b (unchanged u lent (answer.Length 0)) (unchanged (broken u) lent (answer.Faulty refusal.Incomplete u.blocks 0)) in
        g.answer ≡ answer.Faulty fault block n → g.upload.blocks ≡ block
    whole true e = let z : ◌≡◌ {A = ℕ} 0 1 = cc in absurd (omega arith)
    whole false e = cc

    go : (b : Bool) (e : Option Refusal)
        → let g = cond b (unchanged u lent (answer.Refused refusal.Malformed)) (close_by u lent e) in g.answer ≡ answer.Faulty fault block n
        → g.upload.blocks ≡ block
    go true e q = let z : ◌≡◌ {A = ℕ} 0 1 = cc in absurd (omega arith)
    go false (Some kept) q = cc
    go false None q = whole (ends_whole u) q

blocks_word : (u : Upload) → get_or (feed_words u) 15 0 ≡ u.blocks
unfolding feed_words source_words
blocks_word u = refl

-- the answer's number
closed_number : (o : Option Ending) → close_code (closed_as o) ≡ end_number o
closed_number None = refl
closed_number (Some e) = refl

pub words_print : WordsPrint
words_print rooms lent xs f o few enough =
    let g = end rooms lent xs f o few in
    let all = all_held rooms lent xs f o few in
    let one = feeds_print rooms lent xs f o few enough in
    let words = feed_words g.upload in
    let back = sound_back g.upload g.lent all.1 all.2 in
    let is = closed_is words g.lent back in
    let left : closed_words (holding_of g) ≡ feed_words (close_of g.upload g.lent).upload = words_after_lem words g.lent back (closed_of words g.lent)
    ∙ ap (λ (x : Given). feed_words x.upload) is in
    let again = held (feed_words (close_of g.upload g.lent).upload) (close_sound g.upload g.lent all.1 all.2) in
    let answers : (closed_of words g.lent).answer ≡ closed_as (walked ecntable (blocks_of (joined xs))).ended = ap (λ (x : Given). x.answer) is ∙ one.answer in
    subst (WordsInOne (joined xs)) (sym all.0)
    (record {
      prints = one.prints ∙ ap (λ (x : Given). to_output (head_bytes ++ (g.rows ++ (closing (ending_in x.answer)).out))) (sym is);
      answer = ap close_code answers ∙ closed_number (walked ecntable (blocks_of (joined xs))).ended;
      block = λ e q.
          ap (λ (w : List ℕ). get_or w 15 0) left
          ∙ blocks_word (close_of g.upload g.lent).upload
          ∙ close_block g.upload g.lent e.refusal e.block 0 (one.answer ∙ ap closed_as q);
      run = ap (λ (w : List ℕ). (upload_of w).run) left ∙ sym (ap (λ (u : Upload). u.run) again.1) ∙ one.run;
    })

pub words_agree : WordsAgree
words_agree rooms others lent xs ys f same o few ex ey =
    let a = all_held rooms lent xs f o few in
    let b = all_held others lent ys f (subst Octets same o) (omega (arith, ap length same)) in
    let c = cuts_agree rooms others lent xs ys f same o few ex ey in
    a.0 ∙ (λ i. record { words = feed_words (c.upload i); lent = c.lent i; rows = c.rows i }) ∙ sym b.0

-- ---- a refusal

pub refused_leaves_words : RefusedLeavesWords
unfolding fed_of
refused_leaves_words h stretch room base highest refused = go (loaded h.words) refl
  where
    go : (l : Option Upload) → loaded h.words ≡ l → and_fed_words h stretch room ≡ h
    go (Some u) e =
        let is = fed_is h.words h.lent e stretch room in
        let same = is ∙ refused_is_unchanged u h.lent stretch room (subst (λ (x : Given). FeedRefused x.answer) is refused) in
        λ i. record {
          words = (words_after_lem h.words h.lent e (fed_of h.words h.lent stretch room) ∙ ap (λ (x : Given). feed_words x.upload) same
              ∙ feed_words_back h.words u base highest e) i;
          lent = ap (λ (x : Given). x.lent) same i;
          rows = (ap (λ (x : Given). h.rows ++ x.rows) same ∙ append-nil h.rows) i;
        }
    go None e =
        let None : fed_of h.words h.lent stretch room ≡ unchanged (upload_of h.words) h.lent (answer.Refused refusal.Malformed) = rw (other h.words e) in
        λ i. record {
          words = ap (λ (b : Bool). cond b (feed_words (fed_of h.words h.lent stretch room).upload) h.words) (other h.words e) i;
          lent = ap (λ (x : Given). x.lent) None i;
          rows = (ap (λ (x : Given). h.rows ++ x.rows) None ∙ append-nil h.rows) i;
        }
