-- A trace that is fed in stretches is fed as one. Assumes nothing.
use Rattle.std.specs.Prelude.{Option, Some, None, Result, Ok, Err}
use Rattle.answers.specs.declared.Refusal.{Refusal}
use Rattle.convert.specs.declared.Run.{Run}
use mathlib.Core.Path.{◌≡◌, refl, sym, ap, ap₂, ◌∙◌, subst}
use mathlib.Core.Bool.{true}
use mathlib.Core.List.{List, [], ◌∷◌, ◌++◌, append-nil, append_assoc}
use Prim.Native.Nat.{ℕ, zero, suc, ◌+◌, ◌-◌, ◌≤◌}
use native.Mathlib.Omega.{arith}
use lib.ListN.{length, take, drop, replicate, length-append, length-take}
use lib.Seq.{take_at, take-take, drop_at}
use Rattle.answers.proofs.Conditions.{and_left, and_right}
use Rattle.format.specs.Blocks.{block_bytes}
use Rattle.source.specs.Record.{fresh}
use Rattle.trace.specs.Contents.{every, is_zero}
use lib.Dec.{eqb}
use Rattle.numbers.proofs.Octets.{octets_take, octets_drop, octets_append, octets_zeros}
use Rattle.walk.specs.Blocks.{joined}
use Rattle.walk.specs.Fitting.{Took, none_taken, front}
use Rattle.walk.specs.Pieces.{Octets, whole_in}
use Rattle.walk.proofs.Cuts.{Each}
use Rattle.walk.proofs.Pieces.{whole_none, octets_wholes}
use Rattle.convert.specs.declared.feeds.Upload.{Upload}
use Rattle.convert.specs.Runs.{start_of}
use Rattle.convert.specs.Tables.{Kept}
use Rattle.convert.specs.Feeds.{fresh_upload, lent_bytes, most_fed, TakenBy, zeroth_in, part_in, kept_in, padded, sound_upload, feeding, through, held_by, completed, rest_in, left_by, Given, fed_by, bytes_at, feed_of}
use Rattle.convert.specs.FeedTheorems.{HasRoom, FeedStaysSound, unfed, FreshLent, and_fed, feed_all, Enough, CutsAgree}
use Rattle.convert.proofs.Adding.{through_zeroth}
use Rattle.convert.proofs.Cutting.{short_rest}
use Rattle.convert.proofs.Feeding.{through_later, label_goes, label_refused}
use Rattle.convert.proofs.FeedParts.{feed_in_parts}
use Rattle.convert.proofs.FeedRefusals.{feed_fits, Answered, refused, kept, small, fits, answered, refused_is_unchanged}
use Rattle.convert.proofs.Lents.{part_long, more_kept, drop-take}
use Rattle.convert.proofs.SoundUploads.{WellFormed, well_formed, sound_upload_lem, feed_sound}
use Rattle.convert.proofs.Staying.{fed_sound, fed_taken, bytes_octets, left_octets}

-- ---- what a feed keeps

-- block 0 is bytes
through_octets : (i : ℕ) (bs : List (List ℕ)) (k : Kept) → Octets k.zeroth → Each Octets bs → Octets (through feeding i bs k).state.zeroth
unfolding front
through_octets (suc i) bs k o h = subst Octets (sym (ap (λ (w : Took Kept). w.state.zeroth) (through_later i bs k) ∙ through_zeroth (suc i) bs k)) o
through_octets zero [] k o h = o
through_octets zero (b ∷ bs) k o h = go (start_of b) refl
  where
    go : (r : Result Run Refusal) → start_of b ≡ r → Octets (through feeding 0 (b ∷ bs) k).state.zeroth
    go (Ok run) q = subst Octets (sym (ap (λ (w : Took Kept). w.state.zeroth) (label_goes k b bs q) ∙ through_zeroth 1 bs (record { run = run; zeroth = b }))) h.0
    go (Err refusal) q = subst Octets (sym (ap (λ (w : Took Kept). w.state.zeroth) (label_refused k b bs q))) o

-- what holds of an upload and its lent bytes between the feeds of a trace of which so many bytes are to come
pub record Ongoing (u : Upload) (lent : List ℕ) (more : ℕ) : Type 0 where
  pub sound : sound_upload u lent ≡ true
  pub bytes : Octets lent
  pub most : TakenBy u + more ≤ most_fed

module _ (u : Upload) (lent stretch : List ℕ) (os : Octets stretch) where
  fed_ongoing : (more : ℕ) → WellFormed u lent → Octets lent → TakenBy u + (length stretch + more) ≤ most_fed
      → let g = fed_by u lent (rest_in (bytes_at u lent stretch)) (completed u lent (bytes_at u lent stretch)) in Ongoing g.upload g.lent more
  unfolding completed
  fed_ongoing more f ol most =
      let m : TakenBy u + length stretch ≤ most_fed = omega (arith, most) in
      let bs = whole_in (bytes_at u lent stretch) in
      let w = completed u lent (bytes_at u lent stretch) in
      let left = left_by (rest_in (bytes_at u lent stretch)) w.refusal in
      record {
        sound = sound_upload_lem (fed_sound u lent stretch f ol os m);
        bytes =
            octets_append w.state.zeroth (padded left ++ drop lent_bytes lent) (through_octets u.blocks bs (held_by u lent) (octets_take block_bytes lent ol) (octets_wholes (bytes_at u lent stretch) (bytes_octets u lent stretch f ol os m)))
            (octets_append (padded left) (drop lent_bytes lent)
            (octets_append left (replicate (block_bytes - length left) 0) (left_octets u lent stretch f ol os m) (octets_zeros (block_bytes - length left)))
            (octets_drop lent_bytes lent ol));
        most = omega (arith, most, fed_taken u lent stretch f ol os m);
      }

  pub feed_ongoing : (more room : ℕ) → Ongoing u lent (length stretch + more) → let g = feed_of u lent stretch room in Ongoing g.upload g.lent more
  feed_ongoing more room h = go (answered u lent stretch room)
    where
      go : Answered u lent stretch room (feed_of u lent stretch room).answer → let g = feed_of u lent stretch room in Ongoing g.upload g.lent more
      go (refused refusal q) = rw (refused_is_unchanged u lent stretch room (rw q tt)) (record { sound = h.sound; bytes = h.bytes; most = omega (arith, h.most) })
      go (kept refusal s k q) = rw (feed_sound u lent stretch room s k) (record { sound = h.sound; bytes = h.bytes; most = omega (arith, h.most) })
      go (small t q) = rw (refused_is_unchanged u lent stretch room (rw q tt)) (record { sound = h.sound; bytes = h.bytes; most = omega (arith, h.most) })
      go (fits t k) = rw (feed_fits u lent stretch room t k) (fed_ongoing more (well_formed h.sound) h.bytes h.most)

-- ---- nothing is fed

fed_none : (u : Upload) (lent : List ℕ) → WellFormed u lent → u.ended ≡ None
    → let g = fed_by u lent (rest_in (bytes_at u lent [])) (completed u lent (bytes_at u lent [])) in (g.upload ≡ u) × (g.lent ≡ lent) × (g.rows ≡ [])
unfolding completed front
fed_none u lent f going =
    let k = bytes_at u lent [] in
    let size : length k ≡ u.kept = length-append (kept_in u lent) [] ∙ omega (arith, f.kept, length-take u.kept (part_in lent), part_long lent f.long) in
    let rest : rest_in k ≡ k = short_rest k (omega (arith, f.kept)) in
    let done : completed u lent k ≡ none_taken (held_by u lent) = ap (λ (bs : List (List ℕ)). through feeding u.blocks bs (held_by u lent)) (whole_none k (omega (arith, f.kept))) in
    let same = ap₂ (fed_by u lent) rest done in
    let blocks : u.blocks + 0 ≡ u.blocks = omega arith in (
      ap (λ (g : Given). g.upload) same ∙ (λ i. record { run = u.run; blocks = blocks i; kept = size i; ended = sym going i }),
      ap (λ (g : Given). g.lent) same ∙ sym (more_kept lent u.kept f.long (omega (arith, f.kept)) f.zeros [] (omega (arith, f.kept))),
      ap (λ (g : Given). g.rows) same,
    )

feed_none : (u : Upload) (lent : List ℕ) (room : ℕ) → Ongoing u lent 0 → HasRoom u lent [] room
    → let g = feed_of u lent [] room in (g.upload ≡ u) × (g.lent ≡ lent) × (g.rows ≡ [])
feed_none u lent room h fits_in = go u.ended refl
  where
    go : (e : Option Refusal) → u.ended ≡ e → let g = feed_of u lent [] room in (g.upload ≡ u) × (g.lent ≡ lent) × (g.rows ≡ [])
    go (Some refusal) q = rw (feed_sound u lent [] room h.sound q) (refl, refl, refl)
    go None q =
        rw (feed_fits u lent [] room (record { sound = h.sound; going = q; most = h.most }) fits_in) (fed_none u lent (well_formed h.sound) q)

-- ---- all feeds as one

octets_front : (s t : List ℕ) → Octets (s ++ t) → Octets s
octets_front s t o = subst Octets (take_at s t (length s) refl) (octets_take (length s) (s ++ t) o)

octets_back : (s t : List ℕ) → Octets (s ++ t) → Octets t
octets_back s t o = subst Octets (drop_at s t (length s) refl) (octets_drop (length s) (s ++ t) o)

pub record AllAsOne (before : List ℕ) (g one : Given) : Type 0 where
  pub upload : g.upload ≡ one.upload
  pub lent : g.lent ≡ one.lent
  pub rows : g.rows ≡ before ++ one.rows

pub all_as_one : (rooms : ℕ → ℕ) (xs : List (List ℕ)) (i : ℕ) (g : Given) (room : ℕ) → Ongoing g.upload g.lent (length (joined xs)) → Octets (joined xs) → Enough rooms i g xs
    → HasRoom g.upload g.lent (joined xs) room → AllAsOne g.rows (feed_all rooms i g xs) (feed_of g.upload g.lent (joined xs) room)
unfolding feed_all Enough
all_as_one rooms [] i g room h o e r =
    let n = feed_none g.upload g.lent room h r in
    record { upload = sym n.0; lent = sym n.1; rows = sym (ap (λ (l : List ℕ). g.rows ++ l) n.2 ∙ append-nil g.rows) }
all_as_one rooms (x ∷ xs) i g room h o e r =
    let u = g.upload in
    let lent = g.lent in
    let tail = joined xs in
    let long = length-append x tail in
    let first = feed_of u lent x (rooms i) in
    let c = length (completed first.upload first.lent (bytes_at first.upload first.lent tail)).printed.out in
    let here : Ongoing u lent (length x + length tail) = record { sound = h.sound; bytes = h.bytes; most = omega (arith, h.most, long) } in
    let after = feed_ongoing u lent x (octets_front x tail o) (length tail) (rooms i) here in
    let rec = all_as_one rooms xs (suc i) (and_fed g x (rooms i)) c after (octets_back x tail o) e.1 (omega arith) in
    let one = feed_in_parts u lent x tail (rooms i) c room h.bytes (octets_front x tail o) h.most e.0 (omega arith) r in
    record {
      upload = rec.upload ∙ one.upload;
      lent = rec.lent ∙ one.lent;
      rows = rec.rows ∙ append_assoc g.rows first.rows (feed_of first.upload first.lent tail c).rows ∙ ap (λ (l : List ℕ). g.rows ++ l) one.rows;
    }

-- ---- from the fresh state

every_take : (n : ℕ) (l : List ℕ) → every is_zero l ≡ true → every is_zero (take n l) ≡ true
unfolding every
every_take zero l e = refl
every_take (suc n) [] e = refl
every_take (suc n) (c ∷ l) e = rw (and_left (eqb c 0) (every is_zero l) e) (every_take n l (and_right (eqb c 0) (every is_zero l) e))

every_drop : (n : ℕ) (l : List ℕ) → every is_zero l ≡ true → every is_zero (drop n l) ≡ true
unfolding every
every_drop zero l e = e
every_drop (suc n) [] e = e
every_drop (suc n) (c ∷ l) e = every_drop n l (and_right (eqb c 0) (every is_zero l) e)

pub fresh_sound : {lent : List ℕ} → FreshLent lent → sound_upload fresh_upload lent ≡ true
unfolding fresh
fresh_sound {lent} f =
    let front : every is_zero (zeroth_in lent) ≡ true = ap (every is_zero) (sym (take-take block_bytes lent_bytes lent (omega arith))) ∙ every_take block_bytes (take lent_bytes lent) f.zeros in
    let back : every is_zero (part_in lent) ≡ true = ap (every is_zero) (sym (drop-take block_bytes lent_bytes lent)) ∙ every_drop block_bytes (take lent_bytes lent) f.zeros in
    sound_upload_lem (record { long = f.long; kept = omega arith; few = omega arith; zeros = back; run = front; ended = refl })

pub fresh_ongoing : {lent : List ℕ} → FreshLent lent → (n : ℕ) → n ≤ most_fed → Ongoing fresh_upload lent n
fresh_ongoing f n h = record { sound = fresh_sound f; bytes = f.bytes; most = omega arith }

pub cuts_agree : CutsAgree
cuts_agree rooms others lent xs ys f same o few ex ey =
    let room = length (completed fresh_upload lent (bytes_at fresh_upload lent (joined xs))).printed.out in
    let a = all_as_one rooms xs 0 (unfed lent) room (fresh_ongoing f (length (joined xs)) few) o ex (omega arith) in
    let b = all_as_one others ys 0 (unfed lent) room (fresh_ongoing f (length (joined ys)) (omega (arith, ap length same))) (subst Octets same o) ey (omega (arith, ap (λ (t : List ℕ). length (completed fresh_upload lent (bytes_at fresh_upload lent t)).printed.out) same)) in
    let one = ap (λ (t : List ℕ). feed_of fresh_upload lent t room) same in
    record {
      upload = a.upload ∙ ap (λ (g : Given). g.upload) one ∙ sym b.upload;
      lent = a.lent ∙ ap (λ (g : Given). g.lent) one ∙ sym b.lent;
      rows = a.rows ∙ ap (λ (g : Given). g.rows) one ∙ sym b.rows;
    }

pub feed_stays_sound : FeedStaysSound
feed_stays_sound u lent stretch room ol os s = go (answered u lent stretch room)
  where
    go : Answered u lent stretch room (feed_of u lent stretch room).answer → sound_upload (feed_of u lent stretch room).upload (feed_of u lent stretch room).lent ≡ true
    go (refused refusal q) = rw (refused_is_unchanged u lent stretch room (rw q tt)) s
    go (kept refusal p k q) = rw (feed_sound u lent stretch room p k) s
    go (small t q) = rw (refused_is_unchanged u lent stretch room (rw q tt)) s
    go (fits t k) = rw (feed_fits u lent stretch room t k) (sound_upload_lem (fed_sound u lent stretch (well_formed s) ol os t.most))
