-- What the heap names weakly after the end of a group is what the world after it does.
use Rattle.std.proofs.Common.{◌≡◌, Bool, true, false, not, cond, refl, sym, ap, subst, ◌∙◌, inl, inr, Option}
use Rattle.std.proofs.Common.{None, Some, is_some, is_none, if◌then◌else◌, List, [], ◌∷◌, map, Contains}
use Rattle.std.specs.List.{AllByRecursion, IsDistinct, filter}
use Rattle.gz_names.specs.declared.names.Name.{Name}
use Rattle.gz_names.specs.declared.numbers.Place.{Place}
use Rattle.weak_refs.specs.WeakNames.{WeakNamesState, is_same, unless_dead, without_dead}
use Rattle.colour_defs.specs.World.{World, Has, is_present}
use Rattle.colour_defs.proofs.Lists.{contains_cases, contains_head, contains_tail, nothing_in_none}
use Rattle.heap_core.specs.Shape.{IsPresent, cell_of, held_name, name_at}
use Rattle.heap_core.specs.Heap.{HeapState}
use Rattle.heap_core.specs.Sweeping.{is_absent}
use Rattle.slice_driver.specs.Collector.{CollectorState}
use Rattle.slice_driver.specs.Worlds.{LiesIn, NamesWeakly}
use Rattle.slice_driver.proofs.abstraction.Named.{name_of, named_present}
use Rattle.slice_driver.proofs.group_end.Cells.{is_dead}
use Rattle.slice_driver.proofs.group_end.Heaps.{after, cells, name_back, name_on, present_on}
use Rattle.slice_driver.proofs.group_end.WeakEnd.{goes_dead, stays_alive, watched_left}
use Rattle.slice_driver.proofs.group_end.Worlds.{if_placed}
use Rattle.slice_driver.proofs.group_end.Wrappers.{filter_has, has_filter}
use Rattle.slice_driver.proofs.group_end.Ending.{Ending}

some_is : {X : Type 0} (o : Option X) → is_some o ≡ true → is_none o ≡ false
some_is None e = absurd (cc e)
some_is (Some x) e = refl

none_is : {X : Type 0} (o : Option X) → is_none o ≡ false → is_some o ≡ true
none_is None e = absurd (cc e)
none_is (Some x) e = refl

not_true : (b : Bool) → not b ≡ true → b ≡ false
not_true true e = absurd (cc e)
not_true false e = refl

-- two ways through two lists meet where they meet at each element
maps_meet : {A B C D : Type 0} (f : B → D) (u : A → B) (v : C → D) (r : A → C) (xs : List A)
    → ((x : A) → Contains xs x → f (u x) ≡ v (r x)) → map f (map u xs) ≡ map v (map r xs)
maps_meet f u v r [] same = refl
maps_meet f u v r (x ∷ xs) same = ap (λ d. d ∷ map f (map u xs)) (same x (contains_head x xs))
    ∙ ap (λ ds. v (r x) ∷ ds) (maps_meet f u v r xs (λ y has. same y (contains_tail x xs y has)))

-- what a slot still names it named before, and that is not dead
slot_from : (test : Place → Bool) (os : List (Option Place)) (p : Place)
    → Contains (map (unless_dead test) os) (Some p) → Contains os (Some p) × (test p ≡ false)
slot_from test [] p has = absurd (nothing_in_none (Some p) has)
slot_from test (o ∷ os) p has = elim (contains_cases (unless_dead test o) (map (unless_dead test) os) (Some p) has) [
  | inl same ↦ here o same
  | inr tail ↦ (let r = slot_from test os p tail in (contains_tail o os (Some p) r.0, r.1))
]
  where
    here : (v : Option Place) → unless_dead test v ≡ Some p → Contains (v ∷ os) (Some p) × (test p ≡ false)
    here None e = absurd (cc e)
    here (Some q) e = go (test q) refl e
      where
        go : (b : Bool) → test q ≡ b → (if b then None else Some q) ≡ Some p
            → Contains (Some q ∷ os) (Some p) × (test p ≡ false)
        go true at e = absurd (cc e)
        go false at e = (
          subst (λ (v : Option Place). Contains (Some q ∷ os) v) e (contains_head (Some q) os),
          (let same : q ≡ p = cc e in subst (λ z. test z ≡ false) same at),
        )

all_filter : {X : Type 0} (P : X → Type 0) (test : X → Bool) (xs : List X) → AllByRecursion P xs
    → AllByRecursion P (filter test xs)
all_filter P test [] all = tt
all_filter P test (x ∷ xs) all = go (all_filter P test xs all.1) (test x)
  where
    go : AllByRecursion P (filter test xs) → (b : Bool)
        → AllByRecursion P (cond b (x ∷ filter test xs) (filter test xs))
    go rest true = (all.0, rest)
    go rest false = rest

distinct_filter : {X : Type 0} (eq : X → X → Bool) (test : X → Bool) (xs : List X) → IsDistinct eq xs
    → IsDistinct eq (filter test xs)
unfolding IsDistinct
distinct_filter eq test [] once = tt
distinct_filter eq test (x ∷ xs) once = go (distinct_filter eq test xs once.1) (test x)
  where
    go : IsDistinct eq (filter test xs) → (b : Bool) → IsDistinct eq (cond b (x ∷ filter test xs) (filter test xs))
    go rest true = (all_filter (λ y. eq x y ≡ false) test xs once.0, rest)
    go rest false = rest

module _ (c : CollectorState) (w : World) (n : HeapState) (end : Ending c w n) where
  open end use {group as g, ready as ending, ended as e}

  abbrev lies : LiesIn c.heap w
  lies = ending.represents.placed.lies

  abbrev ends : World
  ends = after c w n end

  abbrev gone : Place → Bool
  gone = is_absent n.shape

  weak_is : n.weak_names ≡ without_dead gone c.heap.weak_names
  weak_is = ap (λ (z : HeapState). z.weak_names) e.rest

  alive_there : (p : Place) → IsPresent c.heap.shape p → is_dead c.heap g p ≡ false → gone p ≡ false
  alive_there p there alive = some_is (cell_of n.shape p)
      (present_on c w n end p there alive)

  dead_absent : (p : Place) → is_dead c.heap g p ≡ true → gone p ≡ true
  dead_absent p dead = ap is_none (cells c w n end p
      ∙ ap (λ b. cond b None (cell_of c.heap.shape p)) dead)

  slot_after : (o : Option Place) → Contains c.heap.weak_names.slots o
      → if_placed ends.places (held_name c.heap.shape o) ≡ held_name n.shape (unless_dead gone o)
  slot_after None has = refl
  slot_after (Some p) has = go (is_dead c.heap g p) refl
    where
      here : IsPresent c.heap.shape p
      here = lies.weak_are.slots_held p has

      x : (y : Name) × (name_at c.heap.shape p ≡ Some y)
      x = name_of c.heap.shape p here

      was : if_placed ends.places (held_name c.heap.shape (Some p))
          ≡ (if is_present ends x.0 then Some x.0 else None)
      was = ap (if_placed ends.places) x.1

      go : (b : Bool) → is_dead c.heap g p ≡ b
          → if_placed ends.places (held_name c.heap.shape (Some p)) ≡ held_name n.shape (unless_dead gone (Some p))
      go true dead = was
          ∙ (ap (λ b. if b then Some x.0 else None) (goes_dead c w n end x.0 p x.1 dead)
          ∙ sym (ap (λ b. held_name n.shape (if b then None else Some p)) (dead_absent p dead)))
      go false alive = was
          ∙ (ap (λ b. if b then Some x.0 else None) (stays_alive c w n end x.0 p x.1 alive)
          ∙ (sym (name_on c w n end p alive ∙ x.1)
          ∙ sym (ap (λ b. held_name n.shape (if b then None else Some p)) (alive_there p here alive))))

  watched_on : (x : Name) → Has ends.weak.watched x
      → (p : Place) × Contains n.weak_names.watched p × (name_at n.shape p ≡ Some x)
  watched_on x has =
      let both = (watched_left c w n end x).0 has in
      let at = (lies.weak_are.watched_are x).0 both.0 in
      let alive : is_dead c.heap g at.0 ≡ false = lives at.0 at.2 both.1 (is_dead c.heap g at.0) refl in (
        at.0,
        subst (λ (z : WeakNamesState). Contains z.watched at.0) (sym weak_is)
            (has_filter (λ q. not (gone q)) c.heap.weak_names.watched at.0 at.1
            (ap not (alive_there at.0 (named_present c.heap.shape at.0 x at.2) alive))),
        name_on c w n end at.0 alive ∙ at.2,
      )
    where
      lives : (p : Place) → name_at c.heap.shape p ≡ Some x → is_present ends x ≡ true → (b : Bool)
          → is_dead c.heap g p ≡ b → is_dead c.heap g p ≡ false
      lives p named there true dead =
          absurd (let none = goes_dead c w n end x p named dead in cc (there, none))
      lives p named there false alive = alive

  watched_from : (p : Place) → Contains n.weak_names.watched p
      → Contains c.heap.weak_names.watched p × (not (gone p) ≡ true)
  watched_from p has = filter_has (λ q. not (gone q)) c.heap.weak_names.watched p
      (subst (λ (z : WeakNamesState). Contains z.watched p) weak_is has)

  pub names_weakly_after : NamesWeakly n.shape n.weak_names ends.weak
  names_weakly_after = record {
    slots_are = ap (map (if_placed ends.places)) lies.weak_are.slots_are
        ∙ (maps_meet (if_placed ends.places) (held_name c.heap.shape) (held_name n.shape) (unless_dead gone)
        c.heap.weak_names.slots slot_after
        ∙ sym (ap (λ (z : WeakNamesState). map (held_name n.shape) z.slots) weak_is));
    slots_held = λ p has. none_is (cell_of n.shape p) (slot_from gone c.heap.weak_names.slots p
        (subst (λ (z : WeakNamesState). Contains z.slots (Some p)) weak_is has)).1;
    watched_are = λ x. (
      watched_on x,
      λ at. (
          let was = name_back c w n end at.0 x at.2 in
          (watched_left c w n end x).1 (
            (lies.weak_are.watched_are x).1 (at.0, (watched_from at.0 at.1).0, was.0),
            stays_alive c w n end x at.0 was.0 was.1,
          )),
    );
    watched_held = λ p has. none_is (cell_of n.shape p) (not_true (gone p) (watched_from p has).1);
    once = subst (λ (z : WeakNamesState). IsDistinct is_same z.watched) (sym weak_is)
        (distinct_filter is_same (λ q. not (gone q)) c.heap.weak_names.watched lies.weak_are.once);
  }
