-- A block in parts: what is left of it. Assumes nothing.
use mathlib.Core.Path.{◌≡◌, refl, sym, ap, ap₂, subst, ◌∙◌}
use mathlib.Core.Bool.{Bool, true, false, not, cond, ◌&&◌, and_assoc}
use mathlib.Core.List.{List, [], ◌∷◌, ◌++◌, append-nil}
use Prim.Native.Nat.{ℕ, zero, suc, ◌+◌, ◌-◌, ◌*◌, ◌/◌, ◌%◌, ◌^◌, ◌≤◌, ◌<◌}
use native.Mathlib.Nat.{add-mul, add-zero, add_assoc, zero-add, suc-mul, zero-mul, mul-mod_left, mul-div_cancel, mul-le-mul_right}
use native.Mathlib.Omega.{arith}
use borrow.Author.Tests.{le-leb}
use lib.Dec.{leb}
use lib.IntN.{pos, nat_abs}
use lib.ListN.{length, get_or, take, drop, length-drop}
use Rattle.numbers.specs.BigEndian.{word}
use lib.Seq.{drop-drop, length-take-le}
use Rattle.answers.specs.declared.Refusal.TheVariants as refusal
use Rattle.source.specs.declared.Source.{Source}
use Rattle.source.specs.declared.BlockCount.{BlockCount}
use Rattle.source.specs.declared.BlockCount.TheVariants.{Counted, Refused}
use Rattle.source.specs.Record.{arrivals, sound}
use Rattle.source.specs.Arrivals.{arrival, after}
use Rattle.source.specs.Blocks.{Packet, packets, marks_fit, jump, restart, count_all, block_count}
use Rattle.source.proofs.Facts.{Facts, facts, some_has_counted}
use Rattle.source.proofs.Packets.{packets_take}
use Rattle.source.proofs.Totalled.{length-packets}
use Rattle.engine.specs.Limits.{Held}
use Rattle.engine.specs.Windows.{held, within, wired}
use Rattle.engine.specs.Settled.{settled, top_of, Roomy}
use Rattle.engine.specs.Blocks.{Block, PartSize}
use Rattle.engine.specs.Lean.{Behind}
use Rattle.engine.proofs.Settles.{Open, settles, settled_recent}

-- ---- two parts of a list

pub packets_split : (width k m : ℕ) (s : List ℕ) → packets width (k + m) s ≡ packets width k s ++ packets width m (drop (k * width) s)
unfolding packets
packets_split width zero m s = rw (zero-add m, zero-mul width) refl
packets_split width (suc k) m s =
    let more : suc k + m ≡ suc (k + m) = omega arith in
    let size : width + k * width ≡ suc k * width = omega (arith, suc-mul k width) in
    let rest : packets width (k + m) (drop width s) ≡ packets width k (drop width s) ++ packets width m (drop (suc k * width) s) =
    packets_split width k m (drop width s) ∙ ap (λ (l : List ℕ). packets width k (drop width s) ++ packets width m l) (drop-drop (k * width) width s ∙ ap (λ (i : ℕ). drop i s) size) in
    rw more (ap (λ (l : List Packet). record { wire = record { 0 = word 2 s (width - 4) }; mark = get_or s (width - 2) 0 } ∷ l) rest)

fit_both : (ps qs : List Packet) → marks_fit (ps ++ qs) ≡ (marks_fit ps && marks_fit qs)
fit_both [] qs = refl
fit_both (p ∷ ps) qs = ap (λ (t : Bool). leb p.mark 3 && t) (fit_both ps qs) ∙ sym (and_assoc (leb p.mark 3) (marks_fit ps) (marks_fit qs))

-- ---- the answer to a block

-- what remains of the answer when the record is sound and the records are whole
abbrev pub answer : Source → Source → ℕ → ℕ → List Packet → BlockCount
answer start next jumps restarts ps = cond (marks_fit ps) (count_all ps next jumps restarts) (Refused refusal.Limits start)

turn : (b : Bool) (x y : BlockCount) → cond (not b) x y ≡ cond b y x
turn true x y = refl
turn false x y = refl

pub block_answer_lem : (s : Source) (width : ℕ) (bytes : List ℕ) (n : ℕ) → sound s ≡ true → Block width bytes n → block_count s width bytes ≡ answer s s 0 0 (packets width n bytes)
unfolding block_count
block_answer_lem s width bytes n g b =
    let count : length bytes / width ≡ n = rw b.whole (mul-div_cancel n (omega (arith, b.wide))) in
    let whole : length bytes % width ≡ 0 = rw b.whole (mul-mod_left n width) in
    rw (g, whole, count, le-leb 4 width b.wide, le-leb 1 n b.some, le-leb n 62 b.few)
    (fits (marks_fit (packets width n bytes)))
  where
    fits : (m : Bool) → cond (not (m && true)) (Refused refusal.Limits s) (count_all (packets width n bytes) s 0 0) ≡ cond m (count_all (packets width n bytes) s 0 0) (Refused refusal.Limits s)
    fits true = refl
    fits false = refl

-- the count of two lists, from that of the first
pub count_append : (ps qs : List Packet) (s : Source) (jumps restarts a b : ℕ) {t : Source} {c d : ℕ} → count_all ps s a b ≡ Counted t c d
    → count_all (ps ++ qs) s (jumps + a) (restarts + b) ≡ count_all qs t (jumps + c) (restarts + d)
unfolding count_all
count_append [] qs s jumps restarts a b {t} {c} {d} e =
    let p : s ≡ t = cc in
    let q : a ≡ c = cc in
    let r : b ≡ d = cc in
    λ i. count_all qs (p i) (jumps + q i) (restarts + r i)
count_append (p ∷ ps) qs s jumps restarts a b e =
    let x = arrival s p.wire p.mark in
    ap₂ (λ (m n : ℕ). count_all (ps ++ qs) (after x) m n) (add_assoc jumps a (jump x)) (add_assoc restarts b (restart x))
    ∙ count_append ps qs (after x) jumps restarts (a + jump x) (b + restart x) e

-- ---- what is left

module _ (width : ℕ) (s : List ℕ) (start : Source) where
  pub record Parting (at left : ℕ) (next : Source) (jumps restarts : ℕ) : Type 0 where
    pub wide : 4 ≤ width
    pub whole : at + left * width ≡ length s
    pub few : left ≤ 62
    pub good : sound next ≡ true
    pub some : 1 ≤ arrivals next
    pub room : arrivals next + left ≤ 2 ^ 48
    pub recent : next.history.recent < 2 ^ 64
    pub few_jumps : jumps + left ≤ 62
    pub few_restarts : restarts + left ≤ 62
    pub same : answer start next jumps restarts (packets width left (drop at s)) ≡ block_count start width s

  pub parting_start : {n : ℕ} → Block width s n → Roomy start n → start.history.recent < 2 ^ 64 → Parting 0 n start 0 0
  parting_start {n} b r f = record {
    wide = b.wide;
    whole = sym (b.whole ∙ sym (zero-add (n * width)));
    few = b.few;
    good = r.good;
    some = r.some;
    room = r.room;
    recent = f;
    few_jumps = omega (arith, b.few);
    few_restarts = omega (arith, b.few);
    same = sym (block_answer_lem start width s n r.good b);
  }

  pub parting_same : (at left : ℕ) {x y : Source} {m m' n n' : ℕ} → x ≡ y → m ≡ m' → n ≡ n' → Parting at left y m' n' → Parting at left x m n
  parting_same at left {x} {y} {m} {m'} {n} {n'} a b e p =
      subst (λ (z : Source). Parting at left z m n) (sym a) (subst (λ (i : ℕ). Parting at left y i n) (sym b) (subst (λ (i : ℕ). Parting at left y m' i) (sym e) p))

  pub parting_end : {at left : ℕ} {next : Source} {jumps restarts : ℕ} → Parting at left next jumps restarts → left ≤ 0 → Counted next jumps restarts ≡ block_count start width s
  unfolding packets count_all
  parting_end {at} {left} {next} {jumps} {restarts} c h =
      let none : 0 ≡ left = omega arith in
      ap (λ (n : ℕ). answer start next jumps restarts (packets width n (drop at s))) none ∙ c.same

  -- the next part: k records
  module _ {at left : ℕ} {next : Source} {jumps restarts : ℕ} (c : Parting at left next jumps restarts) (k : ℕ) (z : PartSize left k) where
    pub part_some : 1 ≤ k
    part_some = z.some

    pub part_few : k ≤ 31
    part_few = z.few

    pub part_left : k ≤ left
    part_left = z.fits

    -- its bytes, and those behind it
    pub part_room : at + k * width ≤ length s
    part_room = let l = mul-le-mul_right width part_left in omega (arith, c.whole)

    abbrev bytes : List ℕ
    bytes = take (k * width) (drop at s)

    size : length bytes ≡ k * width
    size = length-take-le (k * width) (drop at s) (rw length-drop (omega (arith, part_room)))

    pub part_held : Held width bytes k
    part_held = record {
      wide = c.wide;
      whole = rw size (mul-mod_left k width);
      count = rw size (mul-div_cancel k (omega (arith, c.wide)));
      some = part_some;
      few = part_few;
    }

    pub part_roomy : Roomy next k
    part_roomy = record { good = c.good; some = c.some; room = omega (arith, c.room, part_left) }

    abbrev here : List Packet
    here = held width bytes

    abbrev behind : List Packet
    behind = packets width (left - k) (drop (at + k * width) s)

    rest_is : packets width left (drop at s) ≡ here ++ behind
    rest_is =
        let sum : left ≡ k + (left - k) = omega (arith, part_left) in
        let mine : held width bytes ≡ packets width k (drop at s) =
        ap (λ (n : ℕ). packets width n bytes) part_held.count ∙ packets_take width k (k * width) (drop at s) c.wide (omega arith) in
        ap (λ (n : ℕ). packets width n (drop at s)) sum ∙ packets_split width k (left - k) (drop at s)
        ∙ ap₂ ◌++◌ (sym mine) (ap (packets width (left - k)) (drop-drop (k * width) at s))

    fit_here : marks_fit (packets width left (drop at s)) ≡ (marks_fit here && marks_fit behind)
    fit_here = ap marks_fit rest_is ∙ fit_both here behind

    pub part_size : length here ≡ k
    part_size = length-packets width (length bytes / width) bytes ∙ part_held.count

    -- a mark above 3
    pub part_misfit : marks_fit here ≡ false → Refused refusal.Limits start ≡ block_count start width s
    part_misfit f =
        let none : marks_fit (packets width left (drop at s)) ≡ false = fit_here ∙ rw f refl in
        sym (ap (λ (m : Bool). cond m (count_all (packets width left (drop at s)) next jumps restarts) (Refused refusal.Limits start)) none) ∙ c.same

    -- the record behind it
    pub part_behind : marks_fit here ≡ true → {t : Source} {more again : ℕ} → Behind next here t more again → t.history.recent < 2 ^ 64
        → Parting (at + k * width) (left - k) t (jumps + more) (restarts + again)
    part_behind f {t} {more} {again} b l =
        let n = part_size in
        let fit : marks_fit behind ≡ marks_fit (packets width left (drop at s)) = sym (fit_here ∙ rw f refl) in
        let counted : count_all behind t (jumps + more) (restarts + again) ≡ count_all (packets width left (drop at s)) next jumps restarts =
        sym (count_append here behind next jumps restarts 0 0 b.same) ∙ ap₂ (λ (x y : ℕ). count_all (here ++ behind) next x y) (add-zero jumps) (add-zero restarts)
        ∙ ap (λ (ps : List Packet). count_all ps next jumps restarts) (sym rest_is) in
        record {
          wide = c.wide;
          whole = together (left - k) (omega (arith, part_left)) ∙ c.whole;
          few = omega (arith, c.few);
          good = b.good;
          some = b.some;
          room = omega (arith, b.more, n, c.room, part_left);
          recent = l;
          few_jumps = omega (arith, b.few_jumps, n, c.few_jumps, part_left);
          few_restarts = omega (arith, b.few_restarts, n, c.few_restarts, part_left);
          same = ap₂ (λ (m : Bool) (x : BlockCount). cond m x (Refused refusal.Limits start)) fit counted ∙ c.same;
        }
      where
        together : (m : ℕ) → k + m ≡ left → at + k * width + m * width ≡ at + left * width
        together m e = omega (arith, ap (λ (x : ℕ). x * width) (sym e), add-mul k m width)

    -- all in the window
    module _ (wires : wired here ≡ true) (fit : marks_fit here ≡ true) (near : within (top_of next) here ≡ true) where
      known : Facts next
      known = facts next (some_has_counted next c.good c.some)

      high : next.highest.0 ≡ pos (nat_abs next.highest.0)
      high = known.highest ∙ ap pos (sym (ap nat_abs known.highest))

      open_here : Open (top_of next) (nat_abs next.highest.0 / 65536) 40 (nat_abs next.highest.0) (length here) next
      open_here =
          record {
            small = omega arith;
            high = high;
            anchor = anchored (nat_abs next.highest.0);
            good = c.good;
            some = c.some;
            room = omega (arith, part_size, part_roomy.room);
            recent = c.recent;
            older = known.fits;
          }
        where
          anchored : (x : ℕ) → x + 40 ≡ x % 65536 + 40 + 65536 * (x / 65536)
          anchored x = omega arith

      pub settled_behind : Behind next here (settled (top_of next) 40 next here) 0 0
      unfolding count_all
      settled_behind =
          let by = settles (top_of next) (nat_abs next.highest.0 / 65536) here [] 40 (nat_abs next.highest.0) next open_here wires fit near in
          record {
            same = ap (λ (ps : List Packet). count_all ps next 0 0) (sym (append-nil here)) ∙ by.same;
            good = by.good;
            some = omega (arith, by.more, c.some);
            more = omega (arith, by.more);
            few_jumps = omega arith;
            few_restarts = omega arith;
          }

      pub part_counted : {t : Source} → t ≡ settled (top_of next) 40 next here → Parting (at + k * width) (left - k) t jumps restarts
      part_counted {t} e =
          let on = part_behind fit settled_behind (settled_recent (top_of next) 40 next here) in
          parting_same (at + k * width) (left - k) e (sym (add-zero jumps)) (sym (add-zero restarts)) on
