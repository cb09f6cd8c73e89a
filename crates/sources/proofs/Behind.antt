-- The table behind a call: the rules are kept, the others keep their contents. Assumes nothing.
use Rattle.std.specs.Prelude.{Option, Some, None}
use mathlib.Core.Path.{◌≡◌, refl, sym, ap, ◌∙◌}
use mathlib.Core.Bool.{Bool, true, false, cond, not, ◌&&◌}
use mathlib.Core.List.{List, [], ◌∷◌, ◌++◌}
use Prim.Native.Nat.{ℕ, suc, ◌+◌, ◌-◌, ◌/◌, ◌≤◌, ◌<◌}
use native.Mathlib.Omega.{arith}
use borrow.Author.Tests.{le-leb, ltb-false}
use lib.Dec.{ltb}
use lib.ListN.{length, get_or, set, take, drop, length-append, take-append-drop, drop_of_length-le}
use lib.Seq.{drop-cons}
use Rattle.answers.specs.Conditions.{all}
use Rattle.answers.specs.declared.Refusal.{Refusal}
use Rattle.answers.specs.declared.Refusal.TheVariants.{Limits, Places}
use Rattle.format.specs.declared.Wire.{Wire}
use Rattle.source.specs.declared.Source.{Source}
use Rattle.source.specs.Record.{arrivals, sound}
use Rattle.source.specs.Arrivals.{arrival, after}
use Rattle.source.specs.Blocks.{packets, in_limits, count_all, block_count}
use Rattle.source.proofs.Kept.{sound_stays}
use Rattle.source.proofs.Packets.{limits}
use Rattle.source.proofs.Totalled.{packets_wires, length-packets, all_counted}
use Rattle.sources.specs.declared.Place.{Place}
use Rattle.sources.specs.Places.{held, empty_place, held_of, rest_of}
use Rattle.sources.specs.Rules.{fault}
use Rattle.sources.specs.Stands.{stands_at, found, put, record_of, new_to, with_place}
use Rattle.sources.specs.Answers.{full, or_else, refusal, kept, outside, behind, arrive_places, count_places}
use Rattle.sources.specs.Theorems.{ArrivalKeepsRules, BlockKeepsRules, NewIsPutIn, OthersKeep}
use Rattle.sources.proofs.Checking.{Kept, kept as kept_of, kept_rises, fault_none}
use Rattle.sources.proofs.Fronts.{front_rest}
use Rattle.sources.proofs.Putting.{found_sound, put_is}
use Rattle.sources.proofs.Sorted.{found_put, put_count}
use Rattle.sources.proofs.Grown.{grown, block_grown}
use Rattle.sources.proofs.Kept.{fits, held_now, rest_now, kept_now}

-- ---- a call that no refusal of 16, 9, 10 or 15 meets

pub record Free (o : Bool) (ssrc : ℕ) (ps : List Place) : Type 0 where
  pub good : Kept ps
  pub inside : o ≡ false
  pub room : (new_to ssrc ps && full ps) ≡ false

pub free : (o : Bool) (ssrc : ℕ) (ps : List Place) → refusal o ssrc ps ≡ None → Free o ssrc ps
unfolding refusal
free o ssrc ps e = go (fault ps) refl o refl (new_to ssrc ps && full ps) refl e
  where
    no : {r : Refusal} → ◌≡◌ {A = Option Refusal} (Some r) None → ⊥
    no e = let z : ◌≡◌ {A = ℕ} 0 1 = cc in omega arith

    go : (f : Option Refusal) → fault ps ≡ f → (b : Bool) → o ≡ b → (c : Bool) → (new_to ssrc ps && full ps) ≡ c
        → or_else f (cond b (Some Limits) (cond c (Some Places) None)) ≡ None → Free o ssrc ps
    go (Some r) hf b hb c hc e = absurd (no e)
    go None hf true hb c hc e = absurd (no e)
    go None hf false hb true hc e = absurd (no e)
    go None hf false hb false hc e = record { good = kept_of ps hf; inside = hb; room = hc }

-- its place, put in
module _ (ssrc : ℕ) (ps : List Place) (s : Source) (good : Kept ps) (some-counted : 1 ≤ arrivals s) (room : (new_to ssrc ps && full ps) ≡ false) where
  abbrev place : Place
  place = record { ssrc = ssrc; source = s }

  is_held_lem : held place ≡ true
  is_held_lem = le-leb 1 (arrivals s) some-counted

  pub held_behind : held_of (with_place place ps) ≡ put place (held_of ps)
  held_behind = held_now place ps good is_held_lem room

  pub rest_behind : rest_of (with_place place ps) ≡ take (length ps - length (put place (held_of ps))) (rest_of ps)
  rest_behind = rest_now place ps good is_held_lem room

  pub kept_behind_lem : sound s ≡ true → Kept (with_place place ps)
  kept_behind_lem e = kept_now place ps good is_held_lem room e

  pub put_fits : length (put place (held_of ps)) ≤ length ps
  put_fits = fits place ps good is_held_lem room

pub record_sound : (ssrc : ℕ) (ps : List Place) → Kept ps → sound (record_of ssrc ps) ≡ true
record_sound ssrc ps k = found_sound ssrc (held_of ps) k.sounds

-- ---- an arrival

module _ (ps : List Place) (ssrc : ℕ) (wire : Wire) (mark : ℕ) (w : wire.0 < 65536) (f : Free (ltb 3 mark) ssrc ps) where
  abbrev next : Source
  next = after (arrival (record_of ssrc ps) wire mark)

  next_sound : sound next ≡ true
  next_sound = sound_stays (record_of ssrc ps) wire mark w (record_sound ssrc ps f.good)

  pub next_some : 1 ≤ arrivals next
  next_some = grown (record_of ssrc ps) wire mark (record_sound ssrc ps f.good) (ltb-false 3 mark f.inside)

  pub next_kept : Kept (with_place (record { ssrc = ssrc; source = next }) ps)
  next_kept = kept_behind_lem ssrc ps next f.good next_some f.room next_sound

pub arrival_keeps_rules : ArrivalKeepsRules
unfolding arrive_places
arrival_keeps_rules ps ssrc wire mark w e = go (refusal (ltb 3 mark) ssrc ps) refl
  where
    go : (r : Option Refusal) → refusal (ltb 3 mark) ssrc ps ≡ r → fault (kept r ps (with_place (record { ssrc = ssrc; source = after (arrival (record_of ssrc ps) wire mark) }) ps)) ≡ None
    go (Some r) h = e
    go None h = let k = next_kept ps ssrc wire mark w (free (ltb 3 mark) ssrc ps h) in fault_none _ k.ruled k.sounds

-- the places behind a call that is not so refused
pub arrive_is : (ps : List Place) (ssrc : ℕ) (wire : Wire) (mark : ℕ) → refusal (ltb 3 mark) ssrc ps ≡ None
    → arrive_places ps ssrc wire mark ≡ with_place (record { ssrc = ssrc; source = after (arrival (record_of ssrc ps) wire mark) }) ps
unfolding arrive_places
arrive_is ps ssrc wire mark e = rw e

pub arrive_held : (ps : List Place) (ssrc : ℕ) (wire : Wire) (mark : ℕ) → wire.0 < 65536 → refusal (ltb 3 mark) ssrc ps ≡ None
    → held_of (arrive_places ps ssrc wire mark) ≡ put (record { ssrc = ssrc; source = after (arrival (record_of ssrc ps) wire mark) }) (held_of ps)
arrive_held ps ssrc wire mark w e =
    let f = free (ltb 3 mark) ssrc ps e in
    ap held_of (arrive_is ps ssrc wire mark e) ∙ held_behind ssrc ps (after (arrival (record_of ssrc ps) wire mark)) f.good (next_some ps ssrc wire mark w f) f.room

pub others_keep : OthersKeep
others_keep ps ssrc wire mark w e other =
    ap (found other) (arrive_held ps ssrc wire mark w e) ∙ found_put other (record { ssrc = ssrc; source = after (arrival (record_of ssrc ps) wire mark) }) (held_of ps)

pub new_is_put_in : NewIsPutIn
new_is_put_in ps ssrc wire mark w e n =
    let f = free (ltb 3 mark) ssrc ps e in
    let s = after (arrival (record_of ssrc ps) wire mark) in
    let p : Place = record { ssrc = ssrc; source = s } in
    let at = stands_at ssrc (held_of ps) in
    let rises = kept_rises ps f.good.ruled in
    let some-counted = next_some ps ssrc wire mark w f in
    let size = put_count p (held_of ps) 0 rises ∙ ap (λ (b : Bool). length (held_of ps) + cond b 1 0) n in
    let room = put_fits ssrc ps s f.good some-counted f.room in
    let whole : length ps ≡ length (held_of ps) + length (rest_of ps) = ap length (sym (front_rest ps)) ∙ length-append (held_of ps) (rest_of ps) in
    let left = length ps - length (put p (held_of ps)) in
    let inside : left < length (rest_of ps) = omega arith in
    let last : drop (suc left) (rest_of ps) ≡ [] = drop_of_length-le (rest_of ps) {i = suc left} (omega arith) in
    record {
      low = take at (held_of ps);
      high = drop at (held_of ps);
      were = sym (take-append-drop at (held_of ps));
      are = arrive_held ps ssrc wire mark w e ∙ put_is p 0 (held_of ps) rises ∙ ap (λ (b : Bool). cond b (take at (held_of ps) ++ p ∷ drop at (held_of ps)) (set (held_of ps) at p)) n;
      unused = get_or (rest_of ps) left empty_place;
      left =
          sym (take-append-drop left (rest_of ps))
          ∙ ap (λ (l : List Place). take left (rest_of ps) ++ l) (drop-cons (rest_of ps) left empty_place inside ∙ ap (λ (l : List Place). get_or (rest_of ps) left empty_place ∷ l) last)
          ∙ ap (λ (l : List Place). l ++ (get_or (rest_of ps) left empty_place ∷ [])) (sym (ap rest_of (arrive_is ps ssrc wire mark e) ∙ rest_behind ssrc ps s f.good some-counted f.room));
    }

-- ---- a block

module _ (ps : List Place) (ssrc width : ℕ) (bytes : List ℕ) (o : (i : ℕ) → get_or bytes i 0 < 256) (f : Free (outside width bytes) ssrc ps) where
  abbrev start : Source
  start = record_of ssrc ps

  pub in_limits_lem : all (in_limits width bytes) ≡ true
  in_limits_lem = go (all (in_limits width bytes)) f.inside
    where
      go : (b : Bool) → not b ≡ false → b ≡ true
      go true e = refl
      go false e = sym e

  pub counted_is : block_count start width bytes ≡ count_all (packets width (length bytes / width) bytes) start 0 0
  unfolding block_count
  counted_is = rw (record_sound ssrc ps f.good, in_limits_lem)

  block_kept : Kept (with_place (record { ssrc = ssrc; source = behind (block_count start width bytes) }) ps)
  block_kept =
      let l = limits width bytes in_limits_lem in
      let n = length bytes / width in
      let c = all_counted (packets width n bytes) start 0 0 (packets_wires width n bytes o) (record_sound ssrc ps f.good) in
      let many : 1 ≤ length (packets width n bytes) = let h = l.some in omega (arith, length-packets width n bytes) in
      let some-counted = block_grown (packets width n bytes) start (record_sound ssrc ps f.good) many l.fit c.is in
      rw (counted_is, c.is) (kept_behind_lem ssrc ps c.state f.good some-counted f.room c.good)

pub block_keeps_rules : BlockKeepsRules
unfolding count_places
block_keeps_rules ps ssrc width bytes o e = go (refusal (outside width bytes) ssrc ps) refl
  where
    go : (r : Option Refusal) → refusal (outside width bytes) ssrc ps ≡ r
        → fault (kept r ps (with_place (record { ssrc = ssrc; source = behind (block_count (record_of ssrc ps) width bytes) }) ps)) ≡ None
    go (Some r) h = e
    go None h = let k = block_kept ps ssrc width bytes o (free (outside width bytes) ssrc ps h) in fault_none _ k.ruled k.sounds
