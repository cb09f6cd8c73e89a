-- A feed of two stretches is a feed of both together. Assumes nothing.
use Rattle.std.specs.Prelude.{Option, Some, None}
use mathlib.Core.Path.{◌≡◌, refl, sym, ap, ap₂, ◌∙◌, subst, subst⁻¹}
use mathlib.Core.Bool.{Bool, true, false}
use mathlib.Core.List.{List, ◌++◌, append-nil, append_assoc}
use Prim.Native.Nat.{ℕ, ◌+◌, ◌-◌, ◌*◌, ◌≤◌}
use native.Mathlib.Omega.{arith}
use lib.ListN.{length, take, replicate, length-append, length-drop}
use lib.Seq.{take-append_seam}
use Rattle.answers.specs.declared.Refusal.{Refusal}
use Rattle.format.specs.Blocks.{block_bytes}
use Rattle.walk.specs.Fitting.{Took}
use Rattle.walk.specs.Pieces.{Octets, wholes, whole_in}
use Rattle.walk.proofs.Pieces.{whole_many, wholes_fit}
use Rattle.convert.specs.declared.feeds.Upload.{Upload}
use Rattle.convert.specs.declared.feeds.FeedAnswer.TheVariants as answer
use Rattle.convert.specs.Tables.{Kept}
use Rattle.convert.specs.Feeds.{most_fed, TakenBy, kept_in, padded, lent_of, sound_upload, feeding, through, held_by, completed, rest_in, left_by, Given, repeated, answer_by, fed_by, bytes_at, feed_of}
use Rattle.convert.specs.FeedTheorems.{with_before, AsOne, HasRoom, FeedInParts}
use Rattle.convert.proofs.Cutting.{parted, follows, through_append, all_taken}
use Rattle.convert.proofs.FeedRefusals.{Taken, feed_fits}
use Rattle.convert.proofs.Lents.{lent_zeroth, lent_part, lent_behind}
use Rattle.convert.proofs.SoundUploads.{WellFormed, well_formed, sound_upload_lem, feed_malformed, feed_sound}
use Rattle.convert.proofs.Staying.{bytes_long, left_small, zeroth_whole, fed_sound}

-- a fed upload, by the refusal
abbrev pub fed_as : Upload → List ℕ → List ℕ → Took Kept → Option Refusal → Given
fed_as u lent rest w o = record {
  answer = answer_by (u.blocks + w.taken) (length w.printed.out) o;
  upload = record { run = w.state.run; blocks = u.blocks + w.taken; kept = length (left_by rest o); ended = o };
  lent = lent_of w.state.zeroth (left_by rest o) lent;
  rows = w.printed.out;
}

before_by : (block n m : ℕ) (o : Option Refusal) → with_before n (answer_by block m o) ≡ answer_by block (n + m) o
before_by block n m None = refl
before_by block n m (Some refusal) = refl

module _ (u : Upload) (lent s t : List ℕ) (f : WellFormed u lent) (going : u.ended ≡ None) (ol : Octets lent) (os : Octets s) (most : TakenBy u + length (s ++ t) ≤ most_fed) where
  abbrev x : List ℕ
  x = bytes_at u lent s

  abbrev w : Took Kept
  w = completed u lent x

  abbrev rest : List ℕ
  rest = rest_in x

  abbrev all : Took Kept
  all = completed u lent (bytes_at u lent (s ++ t))

  abbrev behind : Took Kept
  behind = through feeding (u.blocks + length (whole_in x)) (whole_in (rest ++ t)) w.state

  first_most : TakenBy u + length s ≤ most_fed
  first_most = omega (arith, most, length-append s t)

  bytes_are : bytes_at u lent (s ++ t) ≡ x ++ t
  bytes_are = sym (append_assoc (kept_in u lent) s t)

  rest_is : rest_in (bytes_at u lent (s ++ t)) ≡ rest_in (rest ++ t)
  rest_is = ap rest_in bytes_are ∙ (parted x t).rest

  all_is : (o : Option Refusal) → w.refusal ≡ o → all ≡ follows w behind o
  unfolding completed
  all_is o e =
      ap (λ (bs : List (List ℕ)). through feeding u.blocks bs (held_by u lent)) (ap whole_in bytes_are ∙ (parted x t).wholes)
      ∙ through_append feeding u.blocks (whole_in x) (whole_in (rest ++ t)) (held_by u lent)
      ∙ ap (follows w behind) e

  sound_as : (o : Option Refusal) → w.refusal ≡ o → WellFormed (fed_as u lent rest w o).upload (fed_as u lent rest w o).lent
  sound_as o e = subst (λ (o : Option Refusal). WellFormed (fed_as u lent rest w o).upload (fed_as u lent rest w o).lent) e (fed_sound u lent s f ol os first_most)

  -- after a faulty block
  module _ (refusal : Refusal) (e : w.refusal ≡ Some refusal) (b : ℕ) where
    over : AsOne (fed_as u lent rest w (Some refusal)) (feed_of (fed_as u lent rest w (Some refusal)).upload (fed_as u lent rest w (Some refusal)).lent t b) (fed_by u lent (rest_in (bytes_at u lent (s ++ t))) all)
    over =
        let g = fed_as u lent rest w (Some refusal) in
        let second : feed_of g.upload g.lent t b ≡ repeated g.upload g.lent refusal = feed_sound g.upload g.lent t b (sound_upload_lem (sound_as (Some refusal) e)) refl in
        let both : fed_by u lent (rest_in (bytes_at u lent (s ++ t))) all ≡ g =
        ap (fed_by u lent (rest_in (bytes_at u lent (s ++ t)))) (all_is (Some refusal) e) ∙ ap (fed_as u lent (rest_in (bytes_at u lent (s ++ t))) w) e in
        let n = length w.printed.out in
        let same : n + 0 ≡ n = omega arith in
        rw (second, both)
        (record { answer = ap (answer.Faulty refusal (u.blocks + w.taken)) same; upload = refl; lent = refl; rows = append-nil w.printed.out })

  -- where the first goes on
  module _ (e : w.refusal ≡ None) where
    abbrev next : Upload
    next = (fed_as u lent rest w None).upload

    abbrev after : List ℕ
    after = (fed_as u lent rest w None).lent

    z_long : length w.state.zeroth ≡ block_bytes
    z_long = zeroth_whole u lent s f ol os first_most

    rest_short : length rest ≤ block_bytes
    rest_short = omega (arith, ap (λ (o : Option Refusal). length (left_by rest o)) e, left_small u lent s f ol os first_most)

    taken_all_lem : w.taken ≡ length (whole_in x)
    unfolding completed
    taken_all_lem = all_taken feeding u.blocks (whole_in x) (held_by u lent) e

    kept_is : kept_in next after ≡ rest
    kept_is = ap (take (length rest)) (lent_part lent f.long w.state.zeroth rest z_long rest_short) ∙ take-append_seam rest (replicate (block_bytes - length rest) 0)

    second_is : completed next after (bytes_at next after t) ≡ behind
    unfolding completed
    second_is =
        let n : u.blocks + w.taken ≡ u.blocks + length (whole_in x) = omega (arith, taken_all_lem) in
        ap (λ (k : List ℕ). through feeding (u.blocks + w.taken) (whole_in (k ++ t)) (held_by next after)) kept_is
        ∙ ap₂ (λ (n : ℕ) (z : List ℕ). through feeding n (whole_in (rest ++ t)) (record { run = w.state.run; zeroth = z })) n (lent_zeroth lent f.long w.state.zeroth rest z_long rest_short)

    taken_second : Taken next after t
    unfolding rest_in
    taken_second = record {
      sound = sound_upload_lem (sound_as None e);
      going = refl;
      most = omega (arith, most, length-append s t, taken_all_lem, whole_many x, wholes_fit x, length-drop (block_bytes * wholes x) x, bytes_long u lent s f ol os first_most);
    }

    goes_on_lem : (b : ℕ) → HasRoom next after t b → AsOne (fed_as u lent rest w None) (feed_of next after t b) (fed_by u lent (rest_in (bytes_at u lent (s ++ t))) all)
    goes_on_lem b room =
        let v = behind in
        let second : feed_of next after t b ≡ fed_by next after (rest_in (rest ++ t)) v =
        feed_fits next after t b taken_second room ∙ ap₂ (λ (k : List ℕ) (v : Took Kept). fed_by next after (rest_in (k ++ t)) v) kept_is second_is in
        let both : fed_by u lent (rest_in (bytes_at u lent (s ++ t))) all ≡ fed_by u lent (rest_in (rest ++ t)) (follows w v None) = ap₂ (fed_by u lent) rest_is (all_is None e) in
        let blocks : u.blocks + w.taken + v.taken ≡ u.blocks + (w.taken + v.taken) = omega arith in
        let rows = sym (length-append w.printed.out v.printed.out) in
        let end = lent_behind lent f.long w.state.zeroth rest z_long rest_short in
        rw (second, both)
        (record {
          answer = before_by (u.blocks + w.taken + v.taken) (length w.printed.out) (length v.printed.out) v.refusal ∙ ap₂ (λ (n m : ℕ). answer_by n m v.refusal) blocks rows;
          upload = λ i. record { run = v.state.run; blocks = blocks i; kept = length (left_by (rest_in (rest ++ t)) v.refusal); ended = v.refusal };
          lent = ap (λ (l : List ℕ). v.state.zeroth ++ (padded (left_by (rest_in (rest ++ t)) v.refusal) ++ l)) end;
          rows = refl;
        })

  pub in_parts : (b : ℕ) → HasRoom (fed_by u lent rest w).upload (fed_by u lent rest w).lent t b
      → AsOne (fed_by u lent rest w) (feed_of (fed_by u lent rest w).upload (fed_by u lent rest w).lent t b) (fed_by u lent (rest_in (bytes_at u lent (s ++ t))) all)
  in_parts b = go w.refusal refl
    where
      go : (o : Option Refusal) → w.refusal ≡ o → HasRoom (fed_as u lent rest w o).upload (fed_as u lent rest w o).lent t b
          → AsOne (fed_as u lent rest w o) (feed_of (fed_as u lent rest w o).upload (fed_as u lent rest w o).lent t b) (fed_by u lent (rest_in (bytes_at u lent (s ++ t))) all)
      go None e room = goes_on_lem e b room
      go (Some refusal) e room = over refusal e b

pub feed_in_parts : FeedInParts
feed_in_parts u lent s t a b c ol os most = by_sound (sound_upload u lent) u.ended refl refl
  where
    by_sound : (q : Bool) (e : Option Refusal) → sound_upload u lent ≡ q → u.ended ≡ e
        → let first = feed_of u lent s a in
        HasRoom u lent s a → HasRoom first.upload first.lent t b → HasRoom u lent (s ++ t) c → AsOne first (feed_of first.upload first.lent t b) (feed_of u lent (s ++ t) c)
    by_sound false e q r ha hb hc =
        rw (feed_malformed u lent s a q, feed_malformed u lent t b q, feed_malformed u lent (s ++ t) c q) (record { answer = refl; upload = refl; lent = refl; rows = refl })
    by_sound true (Some refusal) q r ha hb hc =
        rw (feed_sound u lent s a q r, feed_sound u lent t b q r, feed_sound u lent (s ++ t) c q r) (record { answer = refl; upload = refl; lent = refl; rows = refl })
    by_sound true None q r ha hb hc =
        let first = feed_fits u lent s a (record { sound = q; going = r; most = omega (arith, most, length-append s t) }) ha in
        let both = feed_fits u lent (s ++ t) c (record { sound = q; going = r; most = most }) hc in
        let g = fed_by u lent (rest_in (bytes_at u lent s)) (completed u lent (bytes_at u lent s)) in
        let room = subst (λ (g : Given). HasRoom g.upload g.lent t b) first hb in
        subst⁻¹ (λ (g : Given). AsOne g (feed_of g.upload g.lent t b) (feed_of u lent (s ++ t) c)) first
        (subst⁻¹ (λ (h : Given). AsOne g (feed_of g.upload g.lent t b) h) both (in_parts u lent s t (well_formed q) r ol os most b room))
