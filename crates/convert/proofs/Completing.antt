-- A stretch that is fed: the block that it completes, and what is kept. Assumes nothing.
use Rattle.std.specs.Prelude.{None}
use mathlib.Core.Path.{◌≡◌, refl, sym, ap, ap₂, ◌∙◌, subst}
use mathlib.Core.Bool.{Bool, cond}
use mathlib.Core.List.{List, ◌∷◌, ◌++◌, append-nil, append_assoc}
use Prim.Native.Nat.{ℕ, ◌+◌, ◌-◌, ◌*◌, ◌/◌, ◌≤◌, ◌<◌}
use native.Mathlib.Omega.{arith}
use borrow.Author.Tests.{lt-ltb, le-ltb}
use lib.Dec.{ltb}
use lib.ListN.{length, take, drop, replicate, length-append, length-take, length-drop, length-replicate, take-append-drop}
use lib.Seq.{sets, length-sets, take_at, drop_at, drop-append-add}
use Rattle.answers.specs.declared.Refusal.TheVariants.{Limits}
use Rattle.format.specs.Blocks.{block_bytes}
use Rattle.walk.specs.Pieces.{wholes, whole_in}
use Rattle.walk.specs.Fitting.{Took, none_taken, front}
use Rattle.walk.proofs.Pieces.{whole_first, whole_none}
use Rattle.convert.specs.declared.feeds.Upload.{Upload}
use Rattle.convert.specs.declared.feeds.FeedAnswer.TheVariants as answer
use Rattle.convert.specs.declared.feeds.Fed.{Fed}
use Rattle.convert.specs.Tables.{Kept}
use Rattle.convert.specs.Feeds.{lent_bytes, zeroth_in, part_in, kept_in, padded, lent_of, most_fed, TakenBy, feeding, through, held_by, completed, rest_in, Given, unchanged, answer_by, left_by, fed_by, in_room, bytes_at, in_limits, Feeds}
use Rattle.convert.specs.Passes.{done_by, CanAdd, added_by, room_of, kept_more}
use Rattle.convert.proofs.Lents.{zeroth_long, part_long, lent_zeroth, lent_part, lent_behind, sets-again, clear_same, more_kept}
use Rattle.convert.proofs.SoundUploads.{WellFormed, run_sound}

-- ---- a stretch that completes the next block

module _ (u : Upload) (lent stretch : List ℕ) (w : WellFormed u lent) (long : block_bytes ≤ u.kept + length stretch) where
  abbrev pub missing : ℕ
  missing = block_bytes - u.kept

  abbrev start : List ℕ
  start = take missing stretch

  abbrev pub rest : List ℕ
  rest = drop missing stretch

  abbrev pub filled : List ℕ
  filled = sets lent (block_bytes + u.kept) start

  abbrev block : List ℕ
  block = kept_in u lent ++ start

  start_long : length start ≡ missing
  start_long = length-take missing stretch ∙ omega (arith, w.kept)

  block_long : length block ≡ block_bytes
  block_long = length-append (kept_in u lent) start ∙ omega (arith, w.kept, start_long, length-take u.kept (part_in lent), part_long lent w.long)

  filled_is : filled ≡ lent_of (zeroth_in lent) block lent
  filled_is = more_kept lent u.kept w.long (omega (arith, w.kept)) w.zeros start (omega (arith, w.kept, start_long))

  pub filled_zeroth : zeroth_in filled ≡ zeroth_in lent
  filled_zeroth = ap zeroth_in filled_is ∙ lent_zeroth lent w.long (zeroth_in lent) block (zeroth_long lent w.long) (omega (arith, block_long))

  filled_part : part_in filled ≡ block
  filled_part =
      let full : block_bytes - length block ≡ 0 = omega (arith, block_long) in
      ap part_in filled_is ∙ lent_part lent w.long (zeroth_in lent) block (zeroth_long lent w.long) (omega (arith, block_long))
      ∙ ap (λ (n : ℕ). block ++ replicate n 0) full ∙ append-nil block

  filled_behind : drop lent_bytes filled ≡ drop lent_bytes lent
  filled_behind = ap (drop lent_bytes) filled_is ∙ lent_behind lent w.long (zeroth_in lent) block (zeroth_long lent w.long) (omega (arith, block_long))

  bytes_are : bytes_at u lent stretch ≡ block ++ rest
  bytes_are = ap (λ (l : List ℕ). kept_in u lent ++ l) (sym (take-append-drop missing stretch)) ∙ sym (append_assoc (kept_in u lent) start rest)

  wholes_are : whole_in (bytes_at u lent stretch) ≡ block ∷ whole_in rest
  wholes_are =
      ap whole_in bytes_are
      ∙ whole_first (block ++ rest) (omega (arith, length-append block rest, block_long))
      ∙ ap₂ (λ (b : List ℕ) (r : List ℕ). b ∷ whole_in r) (take_at block rest block_bytes block_long) (drop_at block rest block_bytes block_long)

  rest_is : rest_in (bytes_at u lent stretch) ≡ rest_in rest
  unfolding rest_in wholes
  rest_is =
      let e : block_bytes * (length (block ++ rest) / block_bytes) ≡ length block + block_bytes * (length rest / block_bytes) = omega (arith, length-append block rest, block_long) in
      ap (λ (l : List ℕ). drop (block_bytes * (length l / block_bytes)) l) bytes_are
      ∙ ap (λ (n : ℕ). drop n (block ++ rest)) e ∙ drop-append-add block rest (block_bytes * (length rest / block_bytes))

  done_is : done_by u filled rest ≡ completed u lent (bytes_at u lent stretch)
  unfolding completed
  done_is =
      ap₂ (λ (b z : List ℕ). through feeding u.blocks (b ∷ whole_in rest) (record { run = u.run; zeroth = z })) filled_part filled_zeroth
      ∙ ap (λ (bs : List (List ℕ)). through feeding u.blocks bs (held_by u lent)) (sym wholes_are)

  cleared : sets filled (block_bytes + u.kept) (replicate missing 0) ≡ lent
  cleared =
      let size : length (replicate {A = ℕ} missing 0) ≡ missing = length-replicate {A = ℕ} missing 0 in
      let same : missing ≡ lent_bytes - (block_bytes + u.kept) = omega (arith, w.kept) in
      sets-again lent (block_bytes + u.kept) start (replicate missing 0) (start_long ∙ sym size) (omega (arith, w.kept, w.long, size))
      ∙ ap (λ (n : ℕ). sets lent (block_bytes + u.kept) (replicate n 0)) same
      ∙ clear_same lent u.kept w.long (omega (arith, w.kept)) w.zeros

  pub added_is : (room : ℕ) → added_by u filled rest room ≡ room_of u lent stretch room
  added_is room = λ j. given (done_is j) (sym rest_is j) (cleared j) (filled_behind j)
    where
      given : Took Kept → List ℕ → List ℕ → List ℕ → Given
      given t r same behind =
          cond (ltb room (length t.printed.out)) (unchanged u same (answer.Room (length t.printed.out)))
          (record {
            answer = answer_by (u.blocks + t.taken) (length t.printed.out) t.refusal;
            upload = record { run = t.state.run; blocks = u.blocks + t.taken; kept = length (left_by r t.refusal); ended = t.refusal };
            lent = t.state.zeroth ++ (padded (left_by r t.refusal) ++ behind);
            rows = t.printed.out;
          })

  -- the pass may be made
  pub can_add : length stretch ≤ most_fed → CanAdd u filled rest
  can_add small = record {
    ready = record {
      long = omega (arith, w.long, length-sets lent (block_bytes + u.kept) start);
      short = omega (arith, small, length-drop missing stretch);
      sound = λ some. rw filled_zeroth (run_sound w some);
    };
    few = omega (arith, w.few);
    kept = w.kept;
  }

pub feeds_same : {g h : Given} {old : List ℕ} {r : Fed} {lent out : List ℕ} → g ≡ h → Feeds g old r lent out → Feeds h old r lent out
feeds_same {g} {h} {old} {r} {lent} {out} e f = subst (λ (g : Given). Feeds g old r lent out) e f

-- ---- 10

module _ (u : Upload) (lent stretch : List ℕ) (room : ℕ) where
  pub past_most : most_fed < TakenBy u + length stretch → in_limits u lent stretch room ≡ unchanged u lent (answer.Refused Limits)
  past_most h =
      ap (λ (b : Bool). cond b (unchanged u lent (answer.Refused Limits)) (room_of u lent stretch room)) (lt-ltb most_fed (TakenBy u + length stretch) h)

  pub within_most : TakenBy u + length stretch ≤ most_fed → in_limits u lent stretch room ≡ room_of u lent stretch room
  within_most h =
      ap (λ (b : Bool). cond b (unchanged u lent (answer.Refused Limits)) (room_of u lent stretch room)) (le-ltb most_fed (TakenBy u + length stretch) h)

-- ---- a stretch that completes none

pub kept_more_lem : (u : Upload) (lent stretch old : List ℕ) {r : Fed} {after : List ℕ} → WellFormed u lent → u.ended ≡ None → TakenBy u + length stretch ≤ most_fed → u.kept + length stretch < block_bytes
    → (r.answer ≡ answer.Length 0) × (r.upload ≡ kept_more u (length stretch)) × (after ≡ sets lent (block_bytes + u.kept) stretch) → Feeds (in_limits u lent stretch (length old)) old r after old
unfolding completed rest_in wholes front
kept_more_lem u lent stretch old {r} {after} w going few short h =
    let bytes = bytes_at u lent stretch in
    let size : length bytes ≡ u.kept + length stretch =
    length-append (kept_in u lent) stretch ∙ omega (arith, w.kept, length-take u.kept (part_in lent), part_long lent w.long) in
    let none-whole : length bytes / block_bytes ≡ 0 = omega arith in
    let rest : rest_in bytes ≡ bytes = ap (λ (n : ℕ). drop (block_bytes * n) bytes) none-whole in
    let done : completed u lent bytes ≡ none_taken (held_by u lent) =
    ap (λ (bs : List (List ℕ)). through feeding u.blocks bs (held_by u lent)) (whole_none bytes (omega arith)) in
    let fed : in_limits u lent stretch (length old) ≡ fed_by u lent bytes (none_taken (held_by u lent)) =
    within_most u lent stretch (length old) few
    ∙ ap₂ (λ (l : List ℕ) (k : Took Kept). in_room u lent l k (length old)) rest done
    ∙ ap (λ (b : Bool). cond b (unchanged u lent (answer.Room 0)) (fed_by u lent bytes (none_taken (held_by u lent)))) (le-ltb (length old) 0 (omega arith)) in
    let blocks : u.blocks ≡ u.blocks + 0 = omega arith in
    rw fed
    (record {
      answer = h.0;
      upload = h.1 ∙ (λ i. record { run = u.run; blocks = blocks i; kept = sym size i; ended = going i });
      keeps = h.2 ∙ more_kept lent u.kept w.long (omega (arith, w.kept)) w.zeros stretch (omega arith);
      stores = refl;
    })
