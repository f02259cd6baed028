-- A walk over the arenas of a zone that counts.
use Rattle.std.proofs.Common.{◌≡◌, ◌<◌, ◌+◌, ◌-◌, ℕ, List, length, take, Some, option_map, slice_get}
use Rattle.std.proofs.Common.{sym, ◌∙◌, ap, arith}
use Rattle.std.specs.Int.RustNames.{count_ones}
use Rattle.std.proofs.lemmas.List.{take_all}
use Rattle.std.proofs.lemmas.Option.{same_Some, slice_get_within}
use Rattle.arena_table.specs.Slots.{alloc_word_of}
use Rattle.heap_core.specs.Shape.{ArenaShape}
use Rattle.compact.specs.Arenas.{IsNextArena, NoArenaFrom}
use Rattle.compact.specs.Packing.{IsArenaAfter, held_of_zone}
use Rattle.compact.proofs.Counting.{below-take, held-sum, held_at, one_at, other-held, other-one, own-held, own-one}
use Rattle.compact.proofs.Counting.{sum-end, sum-none, sum-step, sum_from}
use Rattle.compact.proofs.Ones.{ones-alloc}

module _ (arenas : List ArenaShape) (zone from : ℕ) where
  module _ (a : ℕ) (next : IsNextArena arenas zone from a) where
    pub within : a < length arenas
    within = slice_get_within arenas a next.arena next.at

    -- its cells are counted
    pub held-next : (word : ℕ)
        → option_map (λ (y : ArenaShape). alloc_word_of y.slots) (slice_get arenas a) ≡ Some word
        → sum_from (held_at zone) 0 (take (a + 1) arenas)
        ≡ sum_from (held_at zone) 0 (take from arenas) + count_ones word
    held-next word is =
        let step = sum-step (held_at zone) arenas from a next.arena next.from_is next.at
        (λ b y le lt at. other-held zone b y (next.lowest b y le lt at)) in
        let own = own-held zone a next.arena next.zone_is in
        let word_is = same_Some (alloc_word_of next.arena.slots) word
        (ap (option_map (λ (y : ArenaShape). alloc_word_of y.slots)) (sym next.at) ∙ is) in
        let ones = sym (ap count_ones word_is) ∙ ones-alloc next.arena.slots in
        omega (arith, step, own, ones)

    -- it is counted
    pub one-next : sum_from (one_at zone) 0 (take (a + 1) arenas) ≡ sum_from (one_at zone) 0 (take from arenas) + 1
    one-next =
        let step = sum-step (one_at zone) arenas from a next.arena next.from_is next.at
        (λ b y le lt at. other-one zone b y (next.lowest b y le lt at)) in
        let own = own-one zone a next.arena next.zone_is in
        omega (arith, step, own)

    -- this many arenas are before it
    pub after-here : (count left : ℕ) → left ≡ 0 → count ≡ left + sum_from (one_at zone) 0 (take from arenas)
        → IsArenaAfter arenas zone count a
    after-here count left empty counted =
        let gap : from + (a - from) ≡ a = (let le = next.from_is in omega (arith, le)) in
        let same = sum-none (one_at zone) arenas from (a - from)
        (λ b y le lt at. other-one zone b y (next.lowest b y le (omega (arith, lt, gap)) at)) in
        let here = ap (λ n. sum_from (one_at zone) 0 (take n arenas)) gap in
        let below = below-take zone a 0 a arenas (omega arith) in
        record {
          most = omega (arith, empty, counted, same, here, below);
          all = λ lt. absurd (omega (arith, lt, empty, counted, same, here, below));
          within = (let lt = within in omega (arith, lt));
        }

  -- all are counted
  module _ (none : NoArenaFrom arenas zone from) where
    pub held-all : sum_from (held_at zone) 0 (take from arenas) ≡ held_of_zone zone arenas
    held-all = sum-end (held_at zone) arenas from (λ b y le at. other-held zone b y (none b y le at))
        ∙ sym (held-sum zone 0 arenas)

    pub after-end : (count left first : ℕ) → count ≡ left + sum_from (one_at zone) 0 (take from arenas)
        → first ≡ length arenas → IsArenaAfter arenas zone count first
    after-end count left first counted is =
        let end = sum-end (one_at zone) arenas from (λ b y le at. other-one zone b y (none b y le at)) in
        let below = below-take zone first 0 first arenas (omega arith) in
        let whole = ap (sum_from (one_at zone) 0) (take_all first arenas (omega (arith, is))) in
        record {
          most = omega (arith, counted, end, below, whole);
          all = λ lt. is;
          within = omega (arith, is);
        }
