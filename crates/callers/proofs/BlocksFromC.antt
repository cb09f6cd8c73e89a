-- Calls of flasknib_count_block in turn. Assumes nothing.
use mathlib.Core.Path.{◌≡◌, refl, sym, ap, ap₂, ◌∙◌, subst, subst⁻¹}
use mathlib.Core.Bool.{Bool, true, false, cond, not}
use mathlib.Core.List.{List, [], ◌∷◌, ◌++◌, append-nil}
use Prim.Native.Nat.{ℕ, ◌+◌, ◌/◌}
use native.Mathlib.Nat.{add-zero}
use native.Mathlib.Omega.{arith}
use lib.Dec.{leb}
use lib.ListN.{length}
use Rattle.answers.specs.Conditions.{all}
use Rattle.answers.specs.declared.Refusal.TheVariants.{Malformed, Limits}
use Rattle.answers.proofs.Conditions.{and_left, and_right}
use Rattle.numbers.specs.BigEndian.{word}
use Rattle.source.specs.declared.Source.{Source}
use Rattle.source.specs.declared.BlockCount.{BlockCount}
use Rattle.source.specs.declared.BlockCount.TheVariants.{Counted, Refused}
use Rattle.source.specs.Record.{fresh_record, sound, wire_number}
use Rattle.source.specs.Blocks.{Packet, packets, marks_fit, in_limits, count_all, block_count}
use Rattle.source.proofs.Facts.{fresh_sound}
use Rattle.source.proofs.Packets.{limits}
use Rattle.source.proofs.Totalled.{packets_wires, all_counted}
use Rattle.engine.proofs.Parting.{count_append}
use Rattle.trace.specs.Contents.{every}
use Rattle.trace.proofs.Limits.{below}
use Rattle.sources.specs.Answers.{behind}
use Rattle.lent.specs.SourceWords.{source_of, is_source, source_words, loaded}
use Rattle.lent.proofs.SourceLaws.{held, sound_back}
use Rattle.capi.specs.OneSource.{count_code, count_words, block_answer, block_words}
use Rattle.capi.proofs.FeedChains.{all_typed}
use Rattle.demands.specs.Calls.{run}
use Rattle.demands.specs.Count.{count}
use Rattle.demands.specs.Witnesses.{c1_packets}
use Rattle.demands.proofs.Traces.{all_arrivals, count_accepted}
use Rattle.demands.proofs.OneCall.{marks_fit_lem}
use Rattle.demands.proofs.Demand.{demand3}
use Rattle.demands.proofs.Witnesses.{met}
use Rattle.callers.specs.InTurn.{left_by, answers_of, Every, ReadOn}
use Rattle.callers.specs.BlocksFromC.{Block, BlockFits, counts, jumps_in, restarts_in, next, after_blocks, sum, packets_in, packets_of, CountsBlocksInTurn, BlocksHoldCount, c1_first, c1_second, c1_blocks}
use Rattle.callers.proofs.InTurn.{in_turn}

-- ---- one block

-- what its answer, of these packets, says
pub record One (s : Source) (ps : List Packet) (c : BlockCount) : Type 0 where
  pub all : count_all ps s 0 0 ≡ Counted (behind c) (jumps_in c) (restarts_in c)
  pub left : count_words (source_words s) c ≡ source_words (behind c)
  pub good : sound (behind c) ≡ true
  pub typed : wire_number (behind c).remembered ≡ true

module _ (s : Source) (b : Block) (g : sound s ≡ true) (w : wire_number s.remembered ≡ true) where
  pub one : BlockFits b → One s (packets_in b) (counts s b)
  unfolding block_count count_all
  one o = subst (λ (t : Bool). One s (packets_in b) (cond (not t) (Refused Malformed s) (by (all (in_limits b.0 b.1))))) (sym g) (go (all (in_limits b.0 b.1)))
    where
      ps : List Packet
      ps = packets b.0 (length b.1 / b.0) b.1

      by : Bool → BlockCount
      by t = cond (not t) (Refused Limits s) (count_all ps s 0 0)

      go : (t : Bool) → One s (cond t ps []) (by t)
      go true =
          let c = all_counted ps s 0 0 (packets_wires b.0 (length b.1 / b.0) b.1 o) g in
          subst⁻¹ (One s ps) c.is (record { all = c.is; left = refl; good = c.good; typed = all_typed ps s 0 0 w c.is })
      go false = record { all = refl; left = refl; good = g; typed = w }

  back : (is_source (source_words s) ≡ true) × (s ≡ source_of (source_words s))
  back = let h = held (source_words s) (sound_back s g w) in (h.1, h.2)

  answer_is : block_answer (source_words s) b.0 b.1 ≡ count_code (counts s b)
  unfolding block_answer
  answer_is = rw (back.0, ← back.1)

  words_are : block_words (source_words s) b.0 b.1 ≡ count_words (source_words s) (counts s b)
  unfolding block_words
  words_are = rw (back.0, ← back.1)

-- words that are those of a sound record
abbrev Reads : List ℕ → Source → Type 0
Reads words s = (words ≡ source_words s) × (sound s ≡ true) × (wire_number s.remembered ≡ true)

abbrev left : List ℕ → Block → List ℕ
left words b = block_words words b.0 b.1

read_on_lem : ReadOn Reads BlockFits (λ words b. block_answer words b.0 b.1) left (λ s b. count_code (counts s b)) next
read_on_lem = record {
  same = λ words s b r o. ap (λ (l : List ℕ). block_answer l b.0 b.1) r.0 ∙ answer_is s b r.1 r.2;
  on = λ words s b r o.
      let c = one s b r.1 r.2 o in
      (ap (λ (l : List ℕ). left l b) r.0 ∙ words_are s b r.1 r.2 ∙ c.left, c.good, c.typed);
}

-- ---- all packets of the blocks

abbrev jumps : Source → List Block → ℕ
jumps s bs = sum (answers_of (λ s b. jumps_in (counts s b)) next s bs)

abbrev restarts : Source → List Block → ℕ
restarts s bs = sum (answers_of (λ s b. restarts_in (counts s b)) next s bs)

add_none : (n : ℕ) → 0 + n ≡ n
add_none n = omega arith

-- from some jumps and restarts on
count_from_lem : (ps : List Packet) (s : Source) (i j : ℕ) {t : Source} {m n : ℕ} → count_all ps s 0 0 ≡ Counted t m n → count_all ps s i j ≡ Counted t (i + m) (j + n)
unfolding count_all
count_from_lem ps s i j e =
    sym (ap (λ (l : List Packet). count_all l s i j) (append-nil ps))
    ∙ sym (ap₂ (λ (m n : ℕ). count_all (ps ++ []) s m n) (add-zero i) (add-zero j))
    ∙ count_append ps [] s i j 0 0 e

all_packets : (s : Source) (bs : List Block) → sound s ≡ true → wire_number s.remembered ≡ true → Every BlockFits bs
    → count_all (packets_of bs) s 0 0 ≡ Counted (after_blocks s bs) (jumps s bs) (restarts s bs)
unfolding count_all left_by answers_of
all_packets s [] g w o = refl
all_packets s (b ∷ bs) g w o =
    let c = one s b g w o.0 in
    let t = next s b in
    count_append (packets_in b) (packets_of bs) s 0 0 0 0 c.all
    ∙ ap₂ (λ (m n : ℕ). count_all (packets_of bs) t m n) (add_none (jumps_in (counts s b))) (add_none (restarts_in (counts s b)))
    ∙ count_from_lem (packets_of bs) t (jumps_in (counts s b)) (restarts_in (counts s b)) (all_packets t bs c.good c.typed o.1)

pub counts_blocks_in_turn : CountsBlocksInTurn
counts_blocks_in_turn s bs g w o =
    let turn = in_turn (List ℕ) Source Block _ Reads BlockFits _ left _ next read_on_lem (source_words s) s bs (refl, g, w) o in
    let end = turn.1 in
    record {
      answers = turn.0;
      left = end.0;
      read = ap loaded end.0 ∙ sound_back (after_blocks s bs) end.1 end.2;
      sound = end.1;
      all = all_packets s bs g w o;
    }

-- ---- the packets of arrivals

fit_append : (ps qs : List Packet) → marks_fit ps ≡ true → marks_fit qs ≡ true → marks_fit (ps ++ qs) ≡ true
fit_append [] qs p q = q
fit_append (x ∷ ps) qs p q =
    rw (and_left (leb x.mark 3) (marks_fit ps) p, fit_append ps qs (and_right (leb x.mark 3) (marks_fit ps) p) q)

packets_fit : (bs : List Block) → marks_fit (packets_of bs) ≡ true
packets_fit [] = refl
packets_fit (b ∷ bs) = fit_append (packets_in b) (packets_of bs) (go (all (in_limits b.0 b.1)) refl) (packets_fit bs)
  where
    go : (t : Bool) → all (in_limits b.0 b.1) ≡ t → marks_fit (cond t (packets b.0 (length b.1 / b.0) b.1) []) ≡ true
    go true e = (limits b.0 b.1 e).fit
    go false e = refl

pub blocks_hold_count : BlocksHoldCount
unfolding source_words
blocks_hold_count ps bs d o same =
    let turn = counts_blocks_in_turn fresh_record bs fresh_sound refl o in
    let marks = marks_fit_lem ps (ap marks_fit (sym same) ∙ packets_fit bs) in
    let end = demand3 ps d in
    let accepted = count_accepted ps fresh_record 0 0 marks end.answers in
    let told = sym turn.all ∙ ap (λ (l : List Packet). count_all l fresh_record 0 0) same ∙ accepted in
    let is : after_blocks fresh_record bs ≡ run ps = ap behind told in
    (turn, turn.left ∙ ap source_words (is ∙ end.state ∙ ap count (all_arrivals ps marks)))

used : Unit {0}
unfolding word packets every
used =
    let fit : Every BlockFits c1_blocks = (below 256 c1_first (omega arith) refl, (below 256 c1_second (omega arith) refl, tt)) in
    let calls = in_turn (List ℕ) Source Block _ Reads BlockFits _ left _ next read_on_lem (source_words fresh_record) fresh_record c1_blocks (refl, fresh_sound, refl) fit in
    let turn = counts_blocks_in_turn fresh_record c1_blocks fresh_sound refl fit in
    let count = blocks_hold_count c1_packets c1_blocks met.c1_described fit refl in
    tt
