use Rattle.std.proofs.Common.{◌≡◌, ◌<◌, ◌≤◌, ◌+◌, ◌-◌, ◌^◌, ◌∙◌, ℕ, suc, true, false, length}
use Rattle.std.proofs.Common.{option_map, slice_get, take}
use Rattle.std.proofs.Common.{if◌then◌else◌, inl, inr, refl, sym, ap, arith}
use Rattle.std.proofs.lemmas.Bool.{cases_eq, cases_lt, lt-ltb, le-ltb}
use Rattle.std.proofs.lemmas.List.{take_all}
use Rattle.arena_table.specs.Indexed.{is_among, is_owned, words_at}
use Rattle.arena_table.specs.Moving.{count_from, given_up_from}
use Rattle.arena_table.specs.Slots.{bit_of, change_at, given_up}
use Rattle.arena_table.proofs.Changing.{length-change_at, slice_get-change_other, slice_get-change_same}
use Rattle.arena_table.proofs.GivenUp.{among-owned, count-below, count-none, count-one, get-given_up_from, given_up_at}
use Rattle.arena_table.proofs.Forwarding.{below-only}
use Rattle.arena_table.proofs.GivenUp.{bit-within, gives-own, keeps-before, keeps-other, same-at_all}
use Rattle.arena_table.proofs.Indexing.{IsIndexed-given_up}
use Rattle.arena_table.proofs.arenas.give_up_all.Goals as goal

pub loop-arena-init : goal.loop-arena-init
loop-arena-init c = record {
  sized = refl;
  gone = λ b. elim (cases_lt b c.args.first) [
    | inl lt ↦ sym (ap (λ t. if t then option_map (given_up_at c.args.zone c.args.first b)
        (slice_get c.args.store.now.arenas b) else slice_get c.args.store.now.arenas b) (lt-ltb b c.args.first lt)
        ∙ keeps-before c.args.zone c.args.first b (slice_get c.args.store.now.arenas b) lt)
    | inr le ↦ sym (ap (λ t. if t then option_map (given_up_at c.args.zone c.args.first b)
        (slice_get c.args.store.now.arenas b) else slice_get c.args.store.now.arenas b) (le-ltb b c.args.first le))
  ];
  counted = sym (count-below c.args.zone c.args.first 0 c.args.store.now.arenas c.args.first (omega arith));
  most = omega arith;
  few = c.ranges.first.fits;
  from = omega arith;
  indexed = c.requires.indexed;
}

pub remove-requires-clause-owned : goal.remove-requires-clause-owned
remove-requires-clause-owned c =
    let zone = c.args.zone in
    let a = c.in-Some.arena in
    let inv = c.loop-arena.invariant in
    let only = c.only-zones.ensures in
    let below : zone < 64 = below-only c.only-zones.result.bits zone only in
    let mine : is_owned zone (slice_get c.loop-arena.store.arenas a) ≡ true =
    sym (among-owned c.only-zones.result.bits zone c.loop-arena.store.arenas a c.in-Some.ensures.fits below only
    inv.indexed.owned.zones) ∙ c.in-Some.ensures.among.1 in
    bit-within (words_at c.loop-arena.index.owned zone) a (inv.indexed.owned.bits zone a below ∙ ap bit_of mine)

pub remove-requires-clause-open_ : goal.remove-requires-clause-open_
remove-requires-clause-open_ c =
    let zone = c.args.zone in
    let a = c.in-Some.arena in
    let inv = c.loop-arena.invariant in
    let only = c.only-zones.ensures in
    let below : zone < 64 = below-only c.only-zones.result.bits zone only in
    inv.indexed.covered zone a below
    (sym (among-owned c.only-zones.result.bits zone c.loop-arena.store.arenas a c.in-Some.ensures.fits below only
    inv.indexed.owned.zones) ∙ c.in-Some.ensures.among.1)

pub loop-arena-preserved : goal.loop-arena-preserved
loop-arena-preserved c =
    let xs = c.args.store.now.arenas in
    let now = c.loop-arena.store.arenas in
    let zone = c.args.zone in
    let first = c.args.first in
    let from = c.loop-arena.from in
    let a = c.in-Some.arena in
    let inv = c.loop-arena.invariant in
    let fits : c.only-zones.result.bits < 2 ^ 64 = c.in-Some.ensures.fits in
    let below : zone < 64 = c.remove.ensures.below in
    let found : (from ≤ a) × (is_among c.only-zones.result.bits (slice_get now a) ≡ true) = c.in-Some.ensures.among in
    let zones = inv.indexed.owned.zones in
    let mine : is_owned zone (slice_get now a) ≡ true =
    sym (among-owned c.only-zones.result.bits zone now a fits below c.only-zones.ensures zones) ∙ found.1 in
    let none : (b : ℕ) → from ≤ b → b < a → is_owned zone (slice_get now b) ≡ false = λ b le lt.
    sym (among-owned c.only-zones.result.bits zone now b fits below c.only-zones.ensures zones)
    ∙ c.in-Some.ensures.lowest b le lt in
    let same : (b : ℕ) → from ≤ b → slice_get now b ≡ slice_get xs b = λ b le. inv.gone b
    ∙ ap (λ t. if t then option_map (given_up_at zone first b) (slice_get xs b) else slice_get xs b) (le-ltb b from le)
    in
    let given : c.give_up.new.self.arenas ≡ change_at given_up now a = c.give_up.ensures.arenas in
    let its = IsIndexed-given_up now c.loop-arena.index c.remove.new.self a zone (record {
      indexed = inv.indexed;
      below = below;
      mine = mine;
      owned = c.remove.ensures.bits;
      takes = c.remove.ensures.open_bits;
      room = c.remove.ensures.room;
      others = c.remove.ensures.others;
    }) in
    record {
      sized = ap length given ∙ length-change_at given_up now a ∙ inv.sized;
      gone = λ b. ap (λ ys. slice_get ys b) given ∙ elim (cases_eq b a) [
        | inl e ↦
            ap (slice_get (change_at given_up now a)) e ∙ slice_get-change_same given_up now a
            ∙ ap (option_map given_up) (same a found.0)
            ∙ sym (gives-own zone first a (slice_get xs a) (omega (arith, found.0, inv.from))
            (ap (is_owned zone) (sym (same a found.0)) ∙ mine))
            ∙ ap (λ n. option_map (given_up_at zone first n) (slice_get xs n)) (sym e)
            ∙ sym (ap (λ t. if t then option_map (given_up_at zone first b) (slice_get xs b) else slice_get xs b)
            (lt-ltb b (a + 1) (omega (arith, e))))
        | inr ne ↦ slice_get-change_other given_up now a b ne ∙ elim (cases_lt b from) [
          | inl before ↦ inv.gone b
              ∙ ap (λ t. if t then option_map (given_up_at zone first b) (slice_get xs b) else slice_get xs b)
              (lt-ltb b from before ∙ sym (lt-ltb b (a + 1) (omega (arith, before, found.0))))
          | inr after ↦ same b after ∙ elim (cases_lt b a) [
            | inl under ↦
                sym (keeps-other zone first b (slice_get xs b)
                (ap (is_owned zone) (sym (same b after)) ∙ none b after under))
                ∙ sym (ap (λ t. if t then option_map (given_up_at zone first b) (slice_get xs b) else slice_get xs b)
                (lt-ltb b (a + 1) (omega (arith, under))))
            | inr past ↦
                sym (ap (λ t. if t then option_map (given_up_at zone first b) (slice_get xs b) else slice_get xs b)
                (le-ltb b (a + 1) (omega (arith, past, ne))))
          ]
        ]
      ];
      counted =
          (let gap : from + (a - from) ≡ a = omega (arith, found.0) in
          let skipped = count-none zone first xs from (a - from)
          (λ b le lt. ap (is_owned zone) (sym (same b le)) ∙ none b le (omega (arith, lt, gap))) in
          let one = count-one zone first xs a (omega (arith, found.0, inv.from))
          (ap (is_owned zone) (sym (same a found.0)) ∙ mine) in
          let here = ap (λ n. count_from zone first 0 (take n xs)) gap in
          let next : suc a ≡ a + 1 = omega arith in
          let there = ap (λ n. count_from zone first 0 (take n xs)) next in
          omega (arith, inv.counted, skipped, one, here, there));
      most = omega (arith, inv.most, found.0);
      few = omega arith;
      from = omega (arith, inv.from, found.0);
      indexed = rw given its;
    }

pub loop-arena-smaller : goal.loop-arena-smaller
loop-arena-smaller c =
    (let found = c.in-Some.ensures.among in let few = c.loop-arena.invariant.few in omega (arith, found.0, few))

pub returns-clause-count : goal.returns-clause-count
returns-clause-count c =
    let xs = c.args.store.now.arenas in
    let zone = c.args.zone in
    let first = c.args.first in
    let from = c.loop-arena.from in
    let inv = c.loop-arena.invariant in
    let only = c.only-zones.ensures in
    let below : zone < 64 = below-only c.only-zones.result.bits zone only in
    let rest = count-none zone first xs from (length xs) (λ b le lt.
    ap (is_owned zone) (sym (inv.gone b
    ∙ ap (λ t. if t then option_map (given_up_at zone first b) (slice_get xs b) else slice_get xs b)
    (le-ltb b from le)))
    ∙ sym (among-owned c.only-zones.result.bits zone c.loop-arena.store.arenas b c.in_default.ensures.fits below only
    inv.indexed.owned.zones) ∙ c.in_default.ensures.none b le) in
    let all : take (from + length xs) xs ≡ xs = take_all (from + length xs) xs (omega arith) in
    inv.counted ∙ sym rest ∙ ap (count_from zone first 0) all

pub returns-clause-arenas : goal.returns-clause-arenas
returns-clause-arenas c =
    let xs = c.args.store.now.arenas in
    let now = c.loop-arena.store.arenas in
    let zone = c.args.zone in
    let first = c.args.first in
    let from = c.loop-arena.from in
    let inv = c.loop-arena.invariant in
    let only = c.only-zones.ensures in
    let below : zone < 64 = below-only c.only-zones.result.bits zone only in
    same-at_all now (given_up_from zone first 0 xs) (λ b. inv.gone b ∙ elim (cases_lt b from) [
      | inl lt ↦ ap (λ t. if t then option_map (given_up_at zone first b) (slice_get xs b) else slice_get xs b)
          (lt-ltb b from lt) ∙ sym (get-given_up_from zone first xs b)
      | inr le ↦
          (let here : slice_get now b ≡ slice_get xs b = inv.gone b
          ∙ ap (λ t. if t then option_map (given_up_at zone first b) (slice_get xs b) else slice_get xs b)
          (le-ltb b from le) in
          ap (λ t. if t then option_map (given_up_at zone first b) (slice_get xs b) else slice_get xs b)
          (le-ltb b from le)
          ∙ sym (keeps-other zone first b (slice_get xs b) (ap (is_owned zone) (sym here)
          ∙ sym (among-owned c.only-zones.result.bits zone now b c.in_default.ensures.fits below only
          inv.indexed.owned.zones) ∙ c.in_default.ensures.none b le))
          ∙ sym (get-given_up_from zone first xs b))
    ])
