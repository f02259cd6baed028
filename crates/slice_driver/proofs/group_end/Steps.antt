-- The end of a group, step by step: arenas are handed out, what is dead is dropped, and zones go on.
use Rattle.std.proofs.Common.{◌≡◌, ◌+◌, ◌*◌, ◌^◌, ◌-◌, ◌<◌, ℕ, inl, inr, sym, ap, ◌∙◌, subst, arith}
use Rattle.std.specs.Int.{bit_at}
use Rattle.std.proofs.lemmas.Bool.{cases_lt}
use Rattle.std.proofs.lemmas.Nat.Bits.{bit_at_cat_high, bit_at-zero}
use Rattle.gz_names.specs.declared.zone_sets.ZoneSet.{ZoneSet}
use Rattle.wrappers.specs.WrapperMaps.{WrappersState, list_of, without_dead}
use Rattle.weak_maps.specs.WeakMaps.{KeepsRows, AreParallel, Carries, IsWithoutDead, LooksState, WeakMapsState}
use Rattle.weak_maps.specs.WeakMaps.{WeakTableState}
use Rattle.weak_refs.specs.WeakNames.{without_dead as without_dead_names}
use Rattle.heap_core.specs.Heap.{HeapState, weak_of}
use Rattle.heap_core.specs.Sweeping.{is_absent, with_handed}
use Rattle.slice_driver.specs.GroupEnd.{DropsDead, EndsZones, IsEnded}

-- a bit of a word of 64 bits is below 64
pub small_word : (word : ℕ) → word < 2 ^ 64 → (z : ℕ) → bit_at word z ≡ 1 → z < 64
small_word word fits z set = elim (cases_lt z 64) [
  | inl lt ↦ lt
  | inr past ↦
      let same : 0 * 2 ^ 64 + word ≡ word = omega arith in
      let none : bit_at word z ≡ 0 = ap (λ n. bit_at n z) (sym same) ∙ bit_at_cat_high 0 64 word z fits (omega arith)
      ∙ bit_at-zero (z - 64) in
      absurd (omega (arith, set, none))
]

-- by the shapes alone: the arenas are those that were handed out
ended_with : (h : HeapState) (g : ZoneSet) (ws : WrappersState) (es : WeakTableState) (ls : LooksState) (n : HeapState)
    → n ≡ record (with_handed h g.bits) {
      shape =
          record (with_handed h g.bits).shape { states = n.shape.states; wrappers = ws; weak = es };
      looks = ls;
      weak_names = without_dead_names (is_absent (with_handed h g.bits).shape) h.weak_names;
    }
    → EndsZones h g n → ((z : ℕ)
    → list_of ws z ≡ without_dead (bit_at g.bits z) (is_absent (with_handed h g.bits).shape)
    (list_of h.shape.wrappers z)) → IsWithoutDead (is_absent (with_handed h g.bits).shape) h.shape.weak es
    → KeepsRows h.shape.weak es → Carries (weak_of h) (record { table = es; looks = ls })
    → AreParallel (record { table = es; looks = ls })
    → Rattle.wrappers.specs.WrapperMaps.AreApart h.shape.wrappers.lists → IsEnded h g n
ended_with h g ws es ls n is zones wrappers entries rows carries parallel apart =
    let same_wrappers : n.shape.wrappers ≡ ws = ap (λ (z : HeapState). z.shape.wrappers) is in
    let same_weak : n.shape.weak ≡ es = ap (λ (z : HeapState). z.shape.weak) is in
    let same_looks : n.looks ≡ ls = ap (λ (z : HeapState). z.looks) is in
    let whole : n ≡ record (with_handed h g.bits) {
      shape =
          record (with_handed h g.bits).shape {
            states = n.shape.states;
            wrappers = n.shape.wrappers;
            weak = n.shape.weak;
          };
      looks = n.looks;
      weak_names = without_dead_names (is_absent n.shape) h.weak_names;
    } =
    is ∙ (λ i. record (with_handed h g.bits) {
      shape =
          record (with_handed h g.bits).shape {
            states = n.shape.states;
            wrappers = sym same_wrappers i;
            weak = sym same_weak i;
          };
      looks = sym same_looks i;
      weak_names = ap (λ (x : HeapState). without_dead_names (is_absent x.shape) h.weak_names) (sym is) i;
    }) in
    record {
      rest = whole;
      sized = zones.sized;
      others = zones.others;
      swept = zones.swept;
      finished = zones.finished;
      apart = apart;
      wrappers = λ z. ap (λ (x : WrappersState). list_of x z) same_wrappers ∙ wrappers z
          ∙ ap (λ (x : HeapState). without_dead (bit_at g.bits z) (is_absent x.shape) (list_of h.shape.wrappers z))
          (sym is);
      entries = subst (λ (x : HeapState). IsWithoutDead (is_absent x.shape) h.shape.weak n.shape.weak) (sym is)
          (subst (λ e. IsWithoutDead (is_absent (with_handed h g.bits).shape) h.shape.weak e) (sym same_weak) entries);
      rows = subst (λ e. KeepsRows h.shape.weak e) (sym same_weak) rows;
      carries = subst (λ (w : WeakMapsState). Carries (weak_of h) w) (sym (ap weak_of is)) carries;
      parallel = subst (λ (w : WeakMapsState). AreParallel w) (sym (ap weak_of is)) parallel;
    }

pub ended_by_steps : (h m k n : HeapState) (g : ZoneSet) → m ≡ with_handed h g.bits → DropsDead m g k
    → n ≡ record k { shape = record k.shape { states = n.shape.states } } → EndsZones h g n → IsEnded h g n
ended_by_steps h m k n g handed drops on zones =
    let d : DropsDead (with_handed h g.bits) g k = subst (λ x. DropsDead x g k) handed drops in
    ended_with h g k.shape.wrappers k.shape.weak k.looks n
    (on ∙ ap (λ (x : HeapState). record x { shape = record x.shape { states = n.shape.states } }) d.rest) zones
    d.wrappers d.entries d.rows d.carries d.parallel d.apart
