-- A heap whose cells have gone to other places shows the graph that it showed.
use Rattle.std.proofs.Common.{◌≡◌, ◌==◌, ◌≢◌, ◌⊎◌, ◌&&◌, ℕ, zero, suc, Bool, true, false, cond, List, [], ◌∷◌}
use Rattle.std.proofs.Common.{length, map, slice_set, Contains, Option, Some, None, IsSome, option_map}
use Rattle.std.proofs.Common.{slice_get, inl, inr, refl, sym, ◌∙◌, ap, subst, eqb-true, arith}
use Rattle.std.specs.Map.{lookup}
use Rattle.std.proofs.lemmas.Bool.{false≢true}
use Rattle.std.proofs.lemmas.List.{get_or-map, length-map}
use Rattle.std.proofs.lemmas.Option.{none-some, same_Some}
use Rattle.gz_names.specs.Moves.{moved}
use Rattle.gz_names.specs.declared.moves.Move.{Move}
use Rattle.gz_names.specs.declared.names.Name.{Name}
use Rattle.gz_names.specs.declared.names.Name.TheVariants.{Cell, Wrap}
use Rattle.gz_names.specs.declared.numbers.CompNo.{CompNo}
use Rattle.gz_names.specs.declared.numbers.Place.{Place}
use Rattle.colour_defs.specs.Graph.{GraphState}
use Rattle.arena_table.specs.Cells.{CellState, field_of, joined}
use Rattle.arena_table.specs.Moving.{forwarded}
use Rattle.wrappers.specs.WrapperMaps.{first_of, is_key, list_at, list_of, place_at, place_of}
use Rattle.wrappers.specs.declared.wrapper_maps.WrapperKey.{WrapperKey}
use Rattle.weak_maps.specs.Moving.{entry_forwarded, table_forwarded}
use Rattle.weak_maps.specs.WeakMaps as weak
use Rattle.weak_maps.specs.WeakMaps.{value_of}
use Rattle.weak_maps.specs.declared.entries.WeakEntry.{WeakEntry}
use Rattle.heap_core.specs.Heap.{HeapState}
use Rattle.heap_core.specs.Moving.{wrappers_forwarded}
use Rattle.heap_core.specs.Shape.{IsPresent, Shape, cell_of, field_in, held_name, name_at, zone_of}
use Rattle.heap_core.specs.Shows.{IsShown, IsWrapperOf, Shows, StandsFor, object_at}

-- what holds of the elements of a list that was mapped
pub contained-map : {A B : Type 0} (f : A → B) (xs : List A) (y : B) → Contains (map f xs) y
    → (x : A) × Contains xs x × (f x ≡ y)
contained-map f [] y has = (let lt = has.1 in absurd (omega (arith, lt)))
contained-map f (x ∷ xs) y (zero, lt, at) = (x, (zero, omega arith, refl), at)
contained-map f (x ∷ xs) y (suc k, lt, at) =
    let rest = contained-map f xs y (k, omega (arith, lt), at) in
    (rest.0, (suc rest.1.0, (let less = rest.1.1 in omega (arith, less)), rest.1.2), rest.2)

map-contained : {A B : Type 0} (f : A → B) (xs : List A) (x : A) → Contains xs x → Contains (map f xs) (f x)
map-contained f xs x (k, lt, at) =
    (k, (let long = length-map xs f in omega (arith, lt, long)), get_or-map f xs k x (f x) lt ∙ ap f at)

-- the wrapper maps
module _ (go : Place → Place) (c t : ℕ) where
  abbrev pub gone : WrapperKey × Place → WrapperKey × Place
  gone e = (e.0, go e.1)

  lookup-gone : (es : List (WrapperKey × Place)) → lookup (is_key c t) (map gone es)
      ≡ option_map go (lookup (is_key c t) es)
  lookup-gone [] = refl
  lookup-gone (e ∷ es) = by (is_key c t e.0) (lookup-gone es)
    where
      by : (b : Bool) → lookup (is_key c t) (map gone es) ≡ option_map go (lookup (is_key c t) es)
          → cond b (Some (go e.1)) (lookup (is_key c t) (map gone es))
          ≡ option_map go (cond b (Some e.1) (lookup (is_key c t) es))
      by true rest = refl
      by false rest = rest

  -- what is found is listed
  lookup-in : (es : List (WrapperKey × Place)) (p : Place) → lookup (is_key c t) es ≡ Some p
      → (e : WrapperKey × Place) × Contains es e × (is_key c t e.0 ≡ true) × (e.1 ≡ p)
  lookup-in [] p at = absurd (none-some p at)
  lookup-in (e ∷ es) p at = by (is_key c t e.0) refl (lookup-in es p) at
    where
      by : (b : Bool) → is_key c t e.0 ≡ b
          → (lookup (is_key c t) es ≡ Some p
          → (d : WrapperKey × Place) × Contains es d × (is_key c t d.0 ≡ true) × (d.1 ≡ p))
          → cond b (Some e.1) (lookup (is_key c t) es) ≡ Some p
          → (d : WrapperKey × Place) × Contains (e ∷ es) d × (is_key c t d.0 ≡ true) × (d.1 ≡ p)
      by true is further f = (e, (zero, omega arith, refl), is, same_Some e.1 p f)
      by false is further f =
          let rest = further f in
          (rest.0, (suc rest.1.0, (let less = rest.1.1 in omega (arith, less)), rest.1.2), rest.2, rest.3)

  -- a wrapper of a zone other than this one is found
  pub record FoundOut (lists : List (List (WrapperKey × Place))) (zone : ℕ) : Type 0 where
    pub z : ℕ
    pub other : z ≢ zone
    pub entry : WrapperKey × Place
    pub listed : Contains (list_at lists z) entry
    pub key : is_key c t entry.0 ≡ true

  pub place-in : (lists : List (List (WrapperKey × Place))) (p : Place) → place_at lists c t ≡ Some p
      → (z : ℕ) × (e : WrapperKey × Place) × Contains (list_at lists z) e × (is_key c t e.0 ≡ true) × (e.1 ≡ p)
  place-in [] p at = absurd (none-some p at)
  place-in (es ∷ lists) p at = by (lookup (is_key c t) es) refl (place-in lists p) at
    where
      by : (o : Option Place) → lookup (is_key c t) es ≡ o
          → (place_at lists c t ≡ Some p
          → (z : ℕ) × (e : WrapperKey × Place) × Contains (list_at lists z) e × (is_key c t e.0 ≡ true) × (e.1 ≡ p))
          → first_of o (place_at lists c t) ≡ Some p
          → (z : ℕ) × (e : WrapperKey × Place) × Contains (list_at (es ∷ lists) z) e × (is_key c t e.0 ≡ true)
          × (e.1 ≡ p)
      by (Some q) is further f = (let one = lookup-in es q is in (zero, one.0, one.1, one.2, one.3 ∙ same_Some q p f))
      by None is further f = (let rest = further f in (suc rest.0, rest.1, rest.2, rest.3, rest.4))

  abbrev pub Found : List (List (WrapperKey × Place)) → ℕ → Type 0
  Found lists zone =
      (place_at (slice_set lists zone (map gone (list_at lists zone))) c t ≡ option_map go (place_at lists c t))
      ⊎ ((place_at (slice_set lists zone (map gone (list_at lists zone))) c t ≡ place_at lists c t)
      × FoundOut lists zone)

  -- it is found where it went, or a wrapper of another zone where it was
  pub place-gone : (lists : List (List (WrapperKey × Place))) (zone : ℕ) → Found lists zone
  place-gone [] zone = inl refl
  place-gone (es ∷ lists) zero = by (lookup (is_key c t) es) refl (place_at lists c t) refl
    where
      by : (o : Option Place) → lookup (is_key c t) es ≡ o → (q : Option Place) → place_at lists c t ≡ q
          → Found (es ∷ lists) zero
      by (Some p) is q at = inl (ap (λ a. first_of a (place_at lists c t))
          (lookup-gone es ∙ ap (option_map go) is)
          ∙ ap (λ a. option_map go (first_of a (place_at lists c t))) (sym is))
      by None is None at = inl (ap (λ a. first_of a (place_at lists c t)) (lookup-gone es ∙ ap (option_map go) is)
          ∙ at ∙ ap (option_map go) (sym (ap (λ a. first_of a (place_at lists c t)) is ∙ at)))
      by None is (Some p) at = (let one = place-in lists p at in inr (
        ap (λ a. first_of a (place_at lists c t)) (lookup-gone es ∙ ap (option_map go) is)
            ∙ ap (λ a. first_of a (place_at lists c t)) (sym is),
        record {
          z = suc one.0;
          other = λ e. absurd (let same : suc one.0 ≡ 0 = e in omega (arith, same));
          entry = one.1;
          listed = one.2;
          key = one.3;
        },
      ))
  place-gone (es ∷ lists) (suc zone) = by (lookup (is_key c t) es) refl (place-gone lists zone)
    where
      by : (o : Option Place) → lookup (is_key c t) es ≡ o → Found lists zone → Found (es ∷ lists) (suc zone)
      by (Some p) is rest = (let one = lookup-in es p is in inr (
        ap (λ a. first_of a (place_at (slice_set lists zone (map gone (list_at lists zone))) c t)) is
            ∙ ap (λ a. first_of a (place_at lists c t)) (sym is),
        record {
          z = zero;
          other = λ e. absurd (let same : 0 ≡ suc zone = e in omega (arith, same));
          entry = one.0;
          listed = one.1;
          key = one.2;
        },
      ))
      by None is (inl same) = inl (
          ap (λ a. first_of a (place_at (slice_set lists zone (map gone (list_at lists zone))) c t)) is ∙ same
          ∙ ap (λ a. option_map go (first_of a (place_at lists c t))) (sym is)
          )
      by None is (inr (same, out)) = inr (
        ap (λ a. first_of a (place_at (slice_set lists zone (map gone (list_at lists zone))) c t)) is ∙ same
            ∙ ap (λ a. first_of a (place_at lists c t)) (sym is),
        record {
          z = suc out.z;
          other = λ e. out.other (let same : suc out.z ≡ suc zone = e in omega (arith, same));
          entry = out.entry;
          listed = out.listed;
          key = out.key;
        },
      )

-- each list has the keys that it had
listed-gone : (go : Place → Place) (lists : List (List (WrapperKey × Place))) (zone z : ℕ) (e : WrapperKey × Place)
    → Contains (list_at (slice_set lists zone (map (λ (d : WrapperKey × Place). (d.0, go d.1)) (list_at lists zone))) z)
    e → (d : WrapperKey × Place) × Contains (list_at lists z) d × (d.0 ≡ e.0)
listed-gone go [] zone z e has = (let lt = has.1 in absurd (omega (arith, lt)))
listed-gone go (es ∷ lists) zero zero e has =
    let was = contained-map (λ (d : WrapperKey × Place). (d.0, go d.1)) es e has in
    (was.0, was.1, ap (λ (d : WrapperKey × Place). d.0) was.2)
listed-gone go (es ∷ lists) zero (suc z) e has = (e, has, refl)
listed-gone go (es ∷ lists) (suc zone) zero e has = (e, has, refl)
listed-gone go (es ∷ lists) (suc zone) (suc z) e has = listed-gone go lists zone z e has

-- a field of a cell leads to where what it named went
field-gone : (go : Place → Place) (os : List (Option Place)) (f : ℕ) (q : Place)
    → joined (slice_get (map (option_map go) os) f) ≡ Some q
    → (r : Place) × (joined (slice_get os f) ≡ Some r) × (go r ≡ q)
field-gone go [] f q at = absurd (none-some q at)
field-gone go (None ∷ os) zero q at = absurd (none-some q at)
field-gone go (Some r ∷ os) zero q at = (r, refl, same_Some (go r) q at)
field-gone go (o ∷ os) (suc f) q at = field-gone go os f q at

-- what a list holds, by indexes
pub joined-at : (os : List (Option Place)) (p : Place) → Contains os (Some p) → (f : ℕ) ×
    (joined (slice_get os f) ≡ Some p)
joined-at [] p has = (let lt = has.1 in absurd (omega (arith, lt)))
joined-at (o ∷ os) p (zero, lt, at) = (zero, at)
joined-at (o ∷ os) p (suc k, lt, at) =
    (let rest = joined-at os p (k, omega (arith, lt), at) in (suc rest.0, rest.1))

-- what is at other places, and what names it there
pub record WentTo (old new : Shape) (zone : ℕ) (moves : List Move) : Type 0 where
  pub states : new.states ≡ old.states
  pub comps : new.comps ≡ old.comps
  pub wrappers : new.wrappers ≡ wrappers_forwarded moves zone old.wrappers
  pub weak_is : new.weak ≡ table_forwarded moves old.weak
  pub regs : new.regs ≡ map (option_map (moved moves)) old.regs
  pub slots : new.slots ≡ map (option_map (moved moves)) old.slots
  pub objects : new.objects ≡ old.objects
  pub cells : (p : Place) → IsPresent old p
      → cell_of new (moved moves p) ≡ option_map (forwarded moves) (cell_of old p)
  pub back : (q : Place) → IsPresent new q → (p : Place) × IsPresent old p × (moved moves p ≡ q)
  pub zones : (p : Place) → IsPresent old p → zone_of new (moved moves p) ≡ zone_of old p
  pub apart : (p q : Place) → IsPresent old p → IsPresent old q → moved moves p ≡ moved moves q → p ≡ q
  pub stays : (p : Place) → IsPresent old p → zone_of old p ≢ zone → moved moves p ≡ p
  pub was_sound : weak.IsSound old.weak
  pub is_sound : weak.IsSound new.weak

module _ (old new : Shape) (zone : ℕ) (moves : List Move) (w : WentTo old new zone moves) where
  abbrev pub go : Place → Place
  go = moved moves

  some-gone : (o : Option CellState) → IsSome o → IsSome (option_map (forwarded moves) o)
  some-gone None is = is
  some-gone (Some cell) is = is

  pub present-went : (p : Place) → IsPresent old p → IsPresent new (go p)
  present-went p is = subst IsSome (sym (w.cells p is)) (some-gone (cell_of old p) is)

  names-gone : (o : Option CellState) → option_map (λ (cell : CellState). cell.name) (option_map (forwarded moves) o)
      ≡ option_map (λ (cell : CellState). cell.name) o
  names-gone None = refl
  names-gone (Some cell) = refl

  pub name-went : (p : Place) → IsPresent old p → name_at new (go p) ≡ name_at old p
  name-went p is = ap (option_map (λ (cell : CellState). cell.name)) (w.cells p is) ∙ names-gone (cell_of old p)

  named : (p : Place) (x : Name) → name_at old p ≡ Some x → IsPresent old p
  named p x at = by (cell_of old p) at
    where
      by : (o : Option CellState) → option_map (λ (cell : CellState). cell.name) o ≡ Some x → IsSome o
      by None e = absurd (none-some x e)
      by (Some cell) e = cc

  name-gone : (p : Place) (x : Name) → name_at old p ≡ Some x → name_at new (go p) ≡ Some x
  name-gone p x at = name-went p (named p x at) ∙ at

  named-new : (q : Place) (x : Name) → name_at new q ≡ Some x → (p : Place) × (name_at old p ≡ Some x) × (go p ≡ q)
  named-new q x at =
      let p = w.back q (by (cell_of new q) at) in
      (p.0, sym (name-went p.0 p.1) ∙ ap (name_at new) p.2 ∙ at, p.2)
    where
      by : (o : Option CellState) → option_map (λ (cell : CellState). cell.name) o ≡ Some x → IsSome o
      by None e = absurd (none-some x e)
      by (Some cell) e = cc

  held-went : (o : Option Place) → ((p : Place) → o ≡ Some p → IsPresent old p)
      → held_name new (option_map go o) ≡ held_name old o
  held-went None held = refl
  held-went (Some p) held = name-went p (held p refl)

  all-went : (os : List (Option Place)) → ((p : Place) → Contains os (Some p) → IsPresent old p)
      → map (held_name new) (map (option_map go) os) ≡ map (held_name old) os
  all-went [] held = refl
  all-went (o ∷ os) held =
      ap (λ x. x ∷ map (held_name new) (map (option_map go) os))
      (held-went o (λ p e. held p (zero, omega arith, e)))
      ∙ ap (λ xs. held_name old o ∷ xs)
      (all-went os (λ p has. held p (suc has.0, (let lt = has.1 in omega (arith, lt)), has.2)))

  held-back : (os : List (Option Place)) → ((p : Place) → Contains os (Some p) → IsPresent old p) → (p : Place)
      → Contains (map (option_map go) os) (Some p) → IsPresent new p
  held-back os held p has =
      let o = contained-map (option_map go) os (Some p) has in by o.0 o.1 o.2
    where
      by : (o : Option Place) → Contains os o → option_map go o ≡ Some p → IsPresent new p
      by None has e = absurd (none-some p e)
      by (Some q) has e = subst (IsPresent new) (same_Some (go q) p e) (present-went q (held q has))

  -- a cell, and what was there
  pub record CameFrom (q : Place) (cell : CellState) : Type 0 where
    pub p : Place
    pub was_cell : CellState
    pub at : cell_of old p ≡ Some was_cell
    pub goes : go p ≡ q
    pub cell_is : forwarded moves was_cell ≡ cell

  came : (q : Place) (cell : CellState) → cell_of new q ≡ Some cell → CameFrom q cell
  came q cell at =
      let p = w.back q (subst IsSome (sym at) cc) in
      by p.0 p.2 (cell_of old p.0) refl (sym (w.cells p.0 p.1) ∙ ap (cell_of new) p.2 ∙ at)
    where
      by : (p : Place) → go p ≡ q → (o : Option CellState) → cell_of old p ≡ o
          → option_map (forwarded moves) o ≡ Some cell → CameFrom q cell
      by p goes None at e = absurd (none-some cell e)
      by p goes (Some c) at e = record {
        p = p;
        was_cell = c;
        at = at;
        goes = goes;
        cell_is = same_Some (forwarded moves c) cell e;
      }

  -- weak entries
  pub record EntryWas (m n v : Place) : Type 0 where
    pub map_ : Place
    pub key : Place
    pub value : Place
    pub was_there : value_of old.weak map_ key ≡ Some value
    pub map_is : go map_ ≡ m
    pub key_is : go key ≡ n
    pub value_is : go value ≡ v

  entry-back : (m k v : Place) → value_of new.weak m k ≡ Some v → EntryWas m k v
  entry-back m k v at =
      let has : Contains new.weak.entries (record { map = m; key = k; value = v }) = (w.is_sound.found m k v).1 at in
      let e = contained-map (entry_forwarded moves) old.weak.entries (record { map = m; key = k; value = v })
      (subst (λ (ws : _). Contains ws.entries (record { map = m; key = k; value = v })) w.weak_is has) in
      record {
        map_ = e.0.map;
        key = e.0.key;
        value = e.0.value;
        was_there = (w.was_sound.found e.0.map e.0.key e.0.value).0 e.1;
        map_is = ap (λ (d : WeakEntry). d.map) e.2;
        key_is = ap (λ (d : WeakEntry). d.key) e.2;
        value_is = ap (λ (d : WeakEntry). d.value) e.2;
      }

  entry-went : (m k v : Place) → value_of old.weak m k ≡ Some v → value_of new.weak (go m) (go k) ≡ Some (go v)
  entry-went m k v at =
      (w.is_sound.found (go m) (go k) (go v)).0
      (subst (λ (ws : _). Contains ws.entries (record { map = go m; key = go k; value = go v })) (sym w.weak_is)
      (map-contained (entry_forwarded moves) old.weak.entries (record { map = m; key = k; value = v })
      ((w.was_sound.found m k v).1 at)))

-- what a cell names is there
fields-present : (h : HeapState) (g : GraphState) → Shows h g → (p : Place) (cell : CellState)
    → cell_of h.shape p ≡ Some cell → (q : Place) → Contains cell.fields (Some q) → IsPresent h.shape q
fields-present h g was p cell at q has =
    let f = joined-at cell.fields q has in
    was.fields_held p q f.0 (ap (λ o. field_in o f.0) at ∙ f.1)

module _ (h k : HeapState) (zone : ℕ) (moves : List Move) (w : WentTo h.shape k.shape zone moves)
    (made : k.made ≡ h.made) (g : GraphState) (was : Shows h g) where
  abbrev pub old : Shape
  old = h.shape

  abbrev pub new : Shape
  new = k.shape

  -- the place of a wrapper
  pub place-went : (c : CompNo) (t : ℕ)
      → place_of new.wrappers c.0 t ≡ option_map (moved moves) (place_of old.wrappers c.0 t)
  place-went c t = ap (λ (ws : _). place_of ws c.0 t) w.wrappers
      ∙ by (place-gone (moved moves) c.0 t old.wrappers.lists zone)
    where
      at_home : (p : Place) → name_at old p ≡ Some (Wrap c t) → slice_get old.comps c.0 ≡ Some (zone_of old p)
      at_home p at = of (cell_of old p) refl at
        where
          of : (o : Option CellState) → cell_of old p ≡ o
              → option_map (λ (cell : CellState). cell.name) o ≡ Some (Wrap c t)
              → slice_get old.comps c.0 ≡ Some (zone_of old p)
          of None is e = absurd (none-some (Wrap c t) e)
          of (Some cell) is e =
              let shown = was.cells p cell is in
              let name : cell.name ≡ Wrap c t = same_Some cell.name (Wrap c t) e in
              let wraps : IsWrapperOf old g p cell c t = subst (StandsFor old g p cell) name shown.stands in
              ap (λ (d : CompNo). slice_get old.comps d.0) (sym wraps.comp_is) ∙ shown.at_home

      stays : FoundOut (moved moves) c.0 t old.wrappers.lists zone → (o : Option Place)
          → place_of old.wrappers c.0 t ≡ o → o ≡ option_map (moved moves) o
      stays out None is = refl
      stays out (Some p) is =
          let name = was.mapped c t p is in
          let home = at_home p name in
          let comp : c.0 ≡ out.entry.0.comp =
          eqb-true c.0 out.entry.0.comp (both (c.0 == out.entry.0.comp) (t == out.entry.0.target) out.key) in
          let z_is : Some out.z ≡ Some (zone_of old p) =
          sym (was.maps_at_home out.z out.entry out.listed) ∙ ap (slice_get old.comps) (sym comp) ∙ home in
          ap Some (sym (w.stays p (named old new zone moves w p (Wrap c t) name)
          (λ e. out.other (same_Some out.z (zone_of old p) z_is ∙ e))))
        where
          both : (a b : Bool) → (a && b) ≡ true → a ≡ true
          both true b e = refl
          both false b e = absurd (false≢true e)

      by : Found (moved moves) c.0 t old.wrappers.lists zone
          → place_at (wrappers_forwarded moves zone old.wrappers).lists c.0 t
          ≡ option_map (moved moves) (place_of old.wrappers c.0 t)
      by (inl same) = same
      by (inr (same, out)) = same ∙ stays out (place_of old.wrappers c.0 t) refl

  -- a cell stands for what it stood for
  stands-went : (q : Place) (cell : CellState) (c : CameFrom old new zone moves w q cell) → (x : Name)
      → StandsFor old g c.p c.was_cell x → StandsFor new g q (forwarded moves c.was_cell) x
  stands-went q cell c (Cell n) (kind, object) = (
    kind,
    object ∙ ap (λ (names : List (Option Name)). Some (record (object_at old c.was_cell) { fields = names }))
        (sym (all-went old new zone moves w c.was_cell.fields (fields-present h g was c.p c.was_cell c.at))),
  )
  stands-went q cell c (Wrap comp t) wraps = record {
    target = moved moves wraps.target;
    kind_is = wraps.kind_is;
    comp_is = wraps.comp_is;
    fields_is = ap (map (option_map (moved moves))) wraps.fields_is;
    target_is = name-gone old new zone moves w wraps.target (Cell t) wraps.target_is;
    known = wraps.known;
    mapped = place-went comp t ∙ ap (option_map (moved moves)) wraps.mapped ∙ ap Some c.goes;
  }

  shown : (q : Place) (cell : CellState) → CameFrom old new zone moves w q cell → IsShown new g q cell
  shown q cell c =
      let s = was.cells c.p c.was_cell c.at in
      let long = length-map c.was_cell.fields (option_map (moved moves)) in
      subst (IsShown new g q) c.cell_is (record {
        stands = stands-went q cell c c.was_cell.name s.stands;
        sized = long ∙ s.sized;
        few = (let few = s.few in omega (arith, few, long));
        at_home = ap (λ (comps : List ℕ). slice_get comps c.was_cell.comp.0) w.comps ∙ s.at_home
            ∙ ap Some (sym (w.zones c.p (subst IsSome (sym c.at) cc)) ∙ ap (zone_of new) c.goes);
      })

  pub shows : Shows k g
  shows = record {
    zones_are = was.zones_are ∙ ap length (sym w.states);
    comps_are = was.comps_are ∙ sym w.comps;
    objects_made = was.objects_made ∙ sym w.objects;
    registers_are = was.registers_are ∙ sym (all-went old new zone moves w old.regs was.registers_held)
        ∙ ap (map (held_name new)) (sym w.regs);
    slots_are = was.slots_are ∙ sym (all-went old new zone moves w old.slots was.slots_held)
        ∙ ap (map (held_name new)) (sym w.slots);
    registers_held = λ p has. held-back old new zone moves w old.regs was.registers_held p
        (subst (λ (os : List (Option Place)). Contains os (Some p)) w.regs has);
    slots_held = λ p has. held-back old new zone moves w old.slots was.slots_held p
        (subst (λ (os : List (Option Place)). Contains os (Some p)) w.slots has);
    fields_held = λ p q f at. fields p q f (cell_of new p) refl at;
    cells = λ q cell at. shown q cell (came old new zone moves w q cell at);
    apart = λ p q x at bt. (let a = named-new old new zone moves w p x at in
        let b = named-new old new zone moves w q x bt in
        sym a.2 ∙ ap (moved moves) (was.apart a.0 b.0 x a.1 b.1) ∙ b.2);
    objects_are = λ n o is. (let p = was.objects_are n o is in
        (moved moves p.0, name-gone old new zone moves w p.0 (Cell n) p.1));
    wrappers_are = λ c t is. (let p = was.wrappers_are c t is in
        (moved moves p.0, name-gone old new zone moves w p.0 (Wrap c t) p.1));
    mapped = λ c t p at. maps c t p (place_of old.wrappers c.0 t) refl (sym (place-went c t) ∙ at);
    maps_at_home = λ z e has. (let d = listed-gone (moved moves) old.wrappers.lists zone z e
        (subst (λ (ws : _). Contains (list_of ws z) e) w.wrappers has) in
        ap (λ (comps : List ℕ). slice_get comps e.0.comp) w.comps
        ∙ ap (λ (key : WrapperKey). slice_get old.comps key.comp) (sym d.2) ∙ was.maps_at_home z d.0 d.1);
    entries_held = λ m k v at. (let e = entry-back old new zone moves w m k v at in
        let held = was.entries_held e.map_ e.key e.value e.was_there in (
          subst (IsPresent new) e.map_is (present-went old new zone moves w e.map_ held.0),
          subst (IsPresent new) e.key_is (present-went old new zone moves w e.key held.1),
          subst (IsPresent new) e.value_is (present-went old new zone moves w e.value held.2),
        ));
    entries_are = λ m k v x y z at mx ky vz. (let e = entry-back old new zone moves w m k v at in
        let held = was.entries_held e.map_ e.key e.value e.was_there in
        was.entries_are e.map_ e.key e.value x y z e.was_there
        (sym (name-went old new zone moves w e.map_ held.0) ∙ ap (name_at new) e.map_is ∙ mx)
        (sym (name-went old new zone moves w e.key held.1) ∙ ap (name_at new) e.key_is ∙ ky)
        (sym (name-went old new zone moves w e.value held.2) ∙ ap (name_at new) e.value_is ∙ vz));
    entries_known = λ x y z at. (let e = was.entries_known x y z at in (
      moved moves e.0,
      moved moves e.1,
      moved moves e.2,
      entry-went old new zone moves w e.0 e.1 e.2 e.3,
      name-gone old new zone moves w e.0 x e.4,
      name-gone old new zone moves w e.1 y e.5,
      name-gone old new zone moves w e.2 z e.6,
    ));
    few_objects = (let few = was.few_objects in let objects = w.objects in omega (arith, few, objects, made));
  }
    where
      fields : (p q : Place) (f : ℕ) (o : Option CellState) → cell_of new p ≡ o → field_in o f ≡ Some q
          → IsPresent new q
      fields p q f None at e = absurd (none-some q e)
      fields p q f (Some cell) at e =
          let c = came old new zone moves w p cell at in
          let r = field-gone (moved moves) c.was_cell.fields f q (ap (λ (d : CellState). field_of d f) c.cell_is ∙ e) in
          subst (IsPresent new) r.2
          (present-went old new zone moves w r.0 (was.fields_held c.p r.0 f (ap (λ o. field_in o f) c.at ∙ r.1)))

      maps : (c : CompNo) (t : ℕ) (p : Place) (o : Option Place) → place_of old.wrappers c.0 t ≡ o
          → option_map (moved moves) o ≡ Some p → name_at new p ≡ Some (Wrap c t)
      maps c t p None is e = absurd (none-some p e)
      maps c t p (Some q) is e =
          subst (λ r. name_at new r ≡ Some (Wrap c t)) (same_Some (moved moves q) p e)
          (name-gone old new zone moves w q (Wrap c t) (was.mapped c t q is))
