-- Every refusal but 7 leaves the places as they were. Assumes nothing.
use Rattle.std.specs.Prelude.{Option, Some, None}
use mathlib.Core.Path.{◌≡◌, refl, sym, ap, ◌∙◌}
use mathlib.Core.Bool.{Bool, true, false, cond}
use mathlib.Core.List.{List, [], ◌∷◌, ◌++◌}
use Prim.Native.Nat.{ℕ, ◌+◌, ◌/◌}
use native.Mathlib.Omega.{arith}
use borrow.Author.Tests.{ltb-true, ltb-false, eqb-true}
use lib.Dec.{eqb, ltb}
use lib.ListN.{length, take}
use lib.Seq.{take-length}
use Rattle.answers.specs.Refusals.{number_of}
use Rattle.answers.specs.declared.Refusal.{Refusal}
use Rattle.format.specs.declared.Wire.{Wire}
use Rattle.source.specs.declared.Source.{Source}
use Rattle.source.specs.declared.Arrival.{Arrival}
use Rattle.source.specs.declared.Arrival.TheVariants as own
use Rattle.source.specs.declared.BlockCount.{BlockCount}
use Rattle.source.specs.declared.BlockCount.TheVariants as block
use Rattle.source.specs.Record.{fresh_record}
use Rattle.source.specs.Arrivals.{arrival, after, remembering, next}
use Rattle.source.specs.Blocks.{packets, count_all, block_count}
use Rattle.source.proofs.Facts.{fresh_sound}
use Rattle.source.proofs.Answers.{arrival_first}
use Rattle.source.proofs.Afresh.{refusal_keeps}
use Rattle.sources.specs.declared.Place.{Place}
use Rattle.sources.specs.declared.Arrived.TheVariants as arrived
use Rattle.sources.specs.declared.Counted.TheVariants as counted
use Rattle.sources.specs.Places.{held_of, rest_of}
use Rattle.sources.specs.Rules.{rising}
use Rattle.sources.specs.Stands.{stands_at, found, record_in, put, record_of, new_to, with_place}
use Rattle.sources.specs.Answers.{refusal, kept, told, told_unless, arrive_answer, arrive_places, outside, behind, told_block, block_unless, count_answer, count_places}
use Rattle.sources.specs.Theorems.{RefusalLeaves, BlockRefusalLeaves}
use Rattle.sources.proofs.Checking.{Kept, kept_rises}
use Rattle.sources.proofs.Fronts.{front_rest}
use Rattle.sources.proofs.Found.{rising_rest, below_none}
use Rattle.sources.proofs.Calling.{never_refused}
use Rattle.sources.proofs.Behind.{Free, free, record_sound}

-- a place put where it stands
put_own : (p : Place) (least : ℕ) (qs : List Place) → rising least qs ≡ true → found p.ssrc qs ≡ Some p.source → put p qs ≡ qs
unfolding put found
put_own p least [] r f = let z : ◌≡◌ {A = ℕ} 0 1 = cc in absurd (omega arith)
put_own p least (q ∷ qs) r f = go (put_own p (q.ssrc + 1) qs (rising_rest least q qs r)) (eqb q.ssrc p.ssrc) refl (ltb q.ssrc p.ssrc) refl f
  where
    inner : (a b : Source) → ◌≡◌ {A = Option Source} (Some a) (Some b) → a ≡ b
    inner a b e = cc

    absent : found p.ssrc qs ≡ None → found p.ssrc qs ≡ Some p.source → ⊥
    absent a b = let z : ◌≡◌ {A = ℕ} 0 1 = cc in omega arith

    go : (found p.ssrc qs ≡ Some p.source → put p qs ≡ qs) → (e : Bool) → eqb q.ssrc p.ssrc ≡ e → (l : Bool) → ltb q.ssrc p.ssrc ≡ l
        → cond e (Some q.source) (found p.ssrc qs) ≡ Some p.source → cond l (q ∷ put p qs) (p ∷ cond e qs (q ∷ qs)) ≡ q ∷ qs
    go more true he true hl f = absurd (let z = eqb-true q.ssrc p.ssrc he in let y = ltb-true q.ssrc p.ssrc hl in omega arith)
    go more true he false hl f = λ i. record { ssrc = sym (eqb-true q.ssrc p.ssrc he) i; source = sym (inner q.source p.source f) i } ∷ qs
    go more false he true hl f = ap (λ (rs : List Place). q ∷ rs) (more f)
    go more false he false hl f =
        let h = ltb-false q.ssrc p.ssrc hl in
        absurd (absent (below_none p.ssrc (q.ssrc + 1) qs (omega arith) (rising_rest least q qs r)) f)

own_place : (p : Place) (ps : List Place) → Kept ps → found p.ssrc (held_of ps) ≡ Some p.source → with_place p ps ≡ ps
unfolding with_place
own_place p ps k f =
    ap (λ (qs : List Place). take (length ps) (qs ++ rest_of ps)) (put_own p 0 (held_of ps) (kept_rises ps k.ruled) f) ∙ ap (take (length ps)) (front_rest ps) ∙ take-length ps

-- ---- an arrival

module _ (ps : List Place) (ssrc : ℕ) (wire : Wire) (mark : ℕ) (r : Refusal) (n : eqb (number_of r) 7 ≡ false) (f : Free (ltb 3 mark) ssrc ps) where
  -- a record that refuses with another number than 7 hands itself back, and is no fresh one
  found_own : (t : Source) → arrival (record_of ssrc ps) wire mark ≡ own.Refused r t → found ssrc (held_of ps) ≡ Some t
  found_own t e = go (found ssrc (held_of ps)) refl e
    where
      hands : (s : Source) → arrival s wire mark ≡ own.Refused r t → t ≡ s
      hands s e = refusal_keeps s t wire mark r e ∙ ap (λ (b : Bool). cond b (remembering s (next wire)) s) n

      go : (g : Option Source) → found ssrc (held_of ps) ≡ g → arrival (record_in g) wire mark ≡ own.Refused r t → g ≡ Some t
      go (Some s) h e = ap Some (sym (hands s e))
      go None h e = absurd (accepted (sym (arrival_first fresh_record wire mark fresh_sound (ltb-false 3 mark f.inside) refl) ∙ e))
        where
          accepted : {s : Source} → own.Accepted s ≡ own.Refused r t → ⊥
          accepted z = let y : ◌≡◌ {A = ℕ} 0 1 = cc in omega arith

  leaves_own : (a : Arrival) → arrival (record_of ssrc ps) wire mark ≡ a → told a ≡ arrived.Refused r → with_place (record { ssrc = ssrc; source = after a }) ps ≡ ps
  leaves_own (own.Accepted t) q e = let z : ◌≡◌ {A = ℕ} 0 1 = cc in absurd (omega arith)
  leaves_own (own.Restarted t) q e = let z : ◌≡◌ {A = ℕ} 0 1 = cc in absurd (omega arith)
  leaves_own (own.Refused r' t) q e =
      let same : r' ≡ r = inner e in
      own_place (record { ssrc = ssrc; source = t }) ps f.good (found_own t (q ∙ ap (λ (x : Refusal). own.Refused x t) same))
    where
      inner : arrived.Refused r' ≡ arrived.Refused r → r' ≡ r
      inner e = cc

pub refusal_leaves : RefusalLeaves
unfolding arrive_answer arrive_places
refusal_leaves ps ssrc wire mark r e n = go (refusal (ltb 3 mark) ssrc ps) refl e
  where
    go : (f : Option Refusal) → refusal (ltb 3 mark) ssrc ps ≡ f → told_unless f (arrival (record_of ssrc ps) wire mark) ≡ arrived.Refused r
        → kept f ps (with_place (record { ssrc = ssrc; source = after (arrival (record_of ssrc ps) wire mark) }) ps) ≡ ps
    go (Some s) h e = refl
    go None h e = leaves_own ps ssrc wire mark r n (free (ltb 3 mark) ssrc ps h) (arrival (record_of ssrc ps) wire mark) refl e

-- ---- a block

pub block_refusal_leaves : BlockRefusalLeaves
unfolding count_answer count_places block_count
block_refusal_leaves ps ssrc width bytes r e = go (refusal (outside width bytes) ssrc ps) refl e
  where
    s : Source
    s = record_of ssrc ps

    -- what a sound record counts is not refused
    counts_all : Free (outside width bytes) ssrc ps → block_count s width bytes ≡ count_all (packets width (length bytes / width) bytes) s 0 0
    counts_all f = rw (record_sound ssrc ps f.good, f.inside)

    by_count : (b : BlockCount) → count_all (packets width (length bytes / width) bytes) s 0 0 ≡ b → told_block (stands_at ssrc (held_of ps)) (new_to ssrc ps) b ≡ counted.Refused r
        → with_place (record { ssrc = ssrc; source = behind b }) ps ≡ ps
    by_count (block.Counted t jumps restarts) q e = let z : ◌≡◌ {A = ℕ} 0 1 = cc in absurd (omega arith)
    by_count (block.Refused r' t) q e = absurd (never_refused (packets width (length bytes / width) bytes) s 0 0 q)

    go : (f : Option Refusal) → refusal (outside width bytes) ssrc ps ≡ f → block_unless f (told_block (stands_at ssrc (held_of ps)) (new_to ssrc ps) (block_count s width bytes)) ≡ counted.Refused r
        → kept f ps (with_place (record { ssrc = ssrc; source = behind (block_count s width bytes) }) ps) ≡ ps
    go (Some x) h e = refl
    go None h e =
        let c = counts_all (free (outside width bytes) ssrc ps h) in
        ap (λ (b : BlockCount). with_place (record { ssrc = ssrc; source = behind b }) ps) c
        ∙ by_count (count_all (packets width (length bytes / width) bytes) s 0 0) refl (sym (ap (told_block (stands_at ssrc (held_of ps)) (new_to ssrc ps)) c) ∙ e)
