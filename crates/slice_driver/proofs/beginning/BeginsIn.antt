-- The worlds in which a collection is being prepared, and in which its marking begins.
use Rattle.std.proofs.Common.{◌≡◌, ◌≢◌, ◌<◌, ◌⊎◌, ◌↔◌, ◌&&◌, ◌||◌, not, ℕ, Bool, true, false, List, [], ◌∷◌, Option}
use Rattle.std.proofs.Common.{Some, None, is_some, refl, sym, ap, subst, ◌∙◌, inl, inr, Contains}
use Rattle.std.specs.FinSet as set
use Rattle.std.specs.FinMap as places
use Rattle.std.specs.List.{list_any}
use Rattle.std.specs.Ordering.{eq_by_cmp}
use Rattle.gz_names.specs.Order.{name_cmp, names_total}
use Rattle.gz_names.specs.declared.names.Name.{Name}
use Rattle.colour_defs.specs.Graph.{GraphState, IsInZones, is_in_zones}
use Rattle.colour_defs.specs.World.{World, Collection, Has, IsIdle, Names, IsPresent, Preparation, first_preparation}
use Rattle.colour_defs.specs.World.{first_tally}
use Rattle.colour_defs.specs.Lawful.{Begins, Prepares}
use Rattle.colour_defs.proofs.Lists.{contains_cases, contains_head, contains_tail, first_of_both, nothing_in_none}
use Rattle.colour_defs.proofs.Lists.{second_of_both, both_of}
use Rattle.colour_defs.proofs.Names.{eq_name-is, eq_name-refl, names_apart}

-- the names among what is held, and a set of them
some_names : List (Option Name) → List Name
some_names [] = []
some_names (None ∷ xs) = some_names xs
some_names (Some x ∷ xs) = x ∷ some_names xs

any_has : (xs : List Name) (x : Name) → list_any (eq_by_cmp name_cmp x) xs ≡ true → Contains xs x
any_has [] x e = absurd (cc e)
any_has (y ∷ ys) x e = go (λ t. any_has ys x t) (eq_by_cmp name_cmp x y) refl e
  where
    go : (list_any (eq_by_cmp name_cmp x) ys ≡ true → Contains ys x) → (b : Bool) → eq_by_cmp name_cmp x y ≡ b
        → (b || list_any (eq_by_cmp name_cmp x) ys) ≡ true → Contains (y ∷ ys) x
    go rest true is e = subst (λ z. Contains (y ∷ ys) z) (sym (eq_name-is x y is)) (contains_head y ys)
    go rest false is e = contains_tail y ys x (rest e)

has_any : (xs : List Name) (x : Name) → Contains xs x → list_any (eq_by_cmp name_cmp x) xs ≡ true
has_any [] x c = absurd (nothing_in_none x c)
has_any (y ∷ ys) x c = elim (contains_cases y ys x c) [
  | inl e ↦ ap (λ b. b || list_any (eq_by_cmp name_cmp x) ys) (ap (eq_by_cmp name_cmp x) e ∙ eq_name-refl x)
  | inr t ↦ later (eq_by_cmp name_cmp x y) (has_any ys x t)
]
  where
    later : (b : Bool) → list_any (eq_by_cmp name_cmp x) ys ≡ true → (b || list_any (eq_by_cmp name_cmp x) ys) ≡ true
    later true e = refl
    later false e = e

in_names : (xs : List (Option Name)) (x : Name) → Contains (some_names xs) x ↔ Contains xs (Some x)
unfolding some_names
in_names [] x = ((λ c. absurd (nothing_in_none x c)), λ c. absurd (nothing_in_none (Some x) c))
in_names (None ∷ xs) x = (
  (λ c. contains_tail None xs (Some x) ((in_names xs x).0 c)),
  λ c. elim (contains_cases None xs (Some x) c) [ inl e ↦ absurd (cc e) | inr t ↦ (in_names xs x).1 t ],
)
in_names (Some y ∷ xs) x = (
  λ c. elim (contains_cases y (some_names xs) x c) [
    | inl e ↦ subst (λ z. Contains (Some y ∷ xs) (Some z)) e (contains_head (Some y) xs)
    | inr t ↦ contains_tail (Some y) xs (Some x) ((in_names xs x).0 t)
  ],
  λ c. elim (contains_cases (Some y) xs (Some x) c) [
    | inl e ↦ (let same : y ≡ x = cc e in
        subst (λ z. Contains (y ∷ some_names xs) z) same (contains_head y (some_names xs)))
    | inr t ↦ contains_tail y (some_names xs) x ((in_names xs x).1 t)
  ],
)

held_set : List (Option Name) → Names
held_set xs = set.from_list (some_names xs)

has_held : (xs : List (Option Name)) (x : Name) → Has (held_set xs) x ↔ Contains xs (Some x)
unfolding held_set
has_held xs x = (
  λ h. (in_names xs x).0 (any_has (some_names xs) x (sym (set.contains-from_list names_total (some_names xs) x) ∙ h)),
  λ c. set.contains-from_list names_total (some_names xs) x ∙ has_any (some_names xs) x ((in_names xs x).1 c),
)

-- the names of a set outside zones
not_true : (b : Bool) → not b ≡ true ↔ (b ≡ true → ⊥)
not_true true = ((λ e. absurd (cc e)), λ n. absurd (n refl))
not_true false = ((λ e f. cc f), λ n. refl)

outside_set : GraphState → List ℕ → Names → Names
outside_set g zones s = set.retain s (λ x. not (is_in_zones g zones x))

has_outside : (g : GraphState) (zones : List ℕ) (s : Names) (x : Name) → Has (outside_set g zones s) x
    ↔ (Has s x × (IsInZones g zones x → ⊥))
unfolding outside_set
has_outside g zones s x =
    let e : set.contains (set.retain s (λ y. not (is_in_zones g zones y))) x
    ≡ (set.contains s x && not (is_in_zones g zones x)) =
    set.contains-retain s (λ y. not (is_in_zones g zones y)) x
    (λ y t. ap (λ z. not (is_in_zones g zones z)) (sym (names_apart x y t))) in (
      λ h. (
        first_of_both (set.contains s x) (not (is_in_zones g zones x)) (sym e ∙ h),
        (not_true (is_in_zones g zones x)).0
            (second_of_both (set.contains s x) (not (is_in_zones g zones x)) (sym e ∙ h)),
      ),
      λ h. e ∙ both_of (set.contains s x) (not (is_in_zones g zones x)) h.0 ((not_true (is_in_zones g zones x)).1 h.1),
    )

-- the present names
present_set : World → Names
present_set w = set.from_list (places.keys w.places)

has_present : (w : World) (x : Name) → Has (present_set w) x ↔ IsPresent w x
unfolding present_set
has_present w x = let e : set.contains (set.from_list {R = name_cmp} (places.keys w.places)) x
    ≡ is_some (places.get w.places x) = set.contains-from_list names_total (places.keys w.places) x
    ∙ sym (places.contains_key-keys w.places x) in (λ h. sym e ∙ h, λ h. e ∙ h)

either : (a b : Bool) → (a || b) ≡ true ↔ ((a ≡ true) ⊎ (b ≡ true))
either true b = ((λ e. inl refl), λ h. refl)
either false b = ((λ e. inr e), λ h. elim h [ inl e ↦ absurd (cc e) | inr e ↦ e ])

has_union : (s t : Names) (x : Name) → Has (set.union s t) x ↔ (Has s x ⊎ Has t x)
has_union s t x =
    let e = set.contains-union names_total s t x in
    let o = either (set.contains s x) (set.contains t x) in
    (λ h. o.0 (sym e ∙ h), λ h. e ∙ o.1 h)

-- the collection
black_start_set : World → Names
black_start_set w = set.union (held_set w.graph.registers) w.black

live_start_set : World → List ℕ → Names
live_start_set w zones =
    set.union (black_start_set w) (set.union (held_set w.graph.slots) (outside_set w.graph zones (present_set w)))

abbrev first_collection : World → Preparation → Collection
first_collection w p = record {
  zones = p.zones;
  marking = p.zones;
  snapshot = w.graph;
  black_starts = black_start_set w;
  live_starts = live_start_set w p.zones;
  woken = set.empty;
  groups = None;
  tally = first_tally w p;
}

has_black_start : (w : World) (x : Name) → Has (black_start_set w) x
    ↔ (Contains w.graph.registers (Some x) ⊎ Has w.black x)
unfolding black_start_set
has_black_start w x =
    let u = has_union (held_set w.graph.registers) w.black x in
    let r = has_held w.graph.registers x in (
      λ h. elim (u.0 h) [ inl a ↦ inl (r.0 a) | inr b ↦ inr b ],
      λ h. u.1 (elim h [ inl a ↦ inl (r.1 a) | inr b ↦ inr b ]),
    )

has_live_start : (w : World) (zones : List ℕ) (x : Name) → Has (live_start_set w zones) x
    ↔ (Has (black_start_set w) x
    ⊎ (Contains w.graph.slots (Some x) ⊎ (IsPresent w x × (IsInZones w.graph zones x → ⊥))))
unfolding live_start_set
has_live_start w zones x =
    let u = has_union (black_start_set w)
    (set.union (held_set w.graph.slots) (outside_set w.graph zones (present_set w))) x in
    let t = has_union (held_set w.graph.slots) (outside_set w.graph zones (present_set w)) x in
    let r = has_held w.graph.slots x in
    let o = has_outside w.graph zones (present_set w) x in
    let p = has_present w x in (
      λ h. elim (u.0 h) [
        | inl a ↦ inl a
        | inr b ↦ elim (t.0 b) [ inl s ↦ inr (inl (r.0 s)) | inr q ↦ inr (inr (p.0 (o.0 q).0, (o.0 q).1)) ]
      ],
      λ h. u.1 (elim h [
        | inl a ↦ inl a
        | inr (inl s) ↦ inr (t.1 (inl (r.1 s)))
        | inr (inr q) ↦ inr (t.1 (inr (o.1 (p.1 q.0, q.1))))
      ]),
    )

-- the world in which these zones are being prepared
pub prepares_in : (w : World) (zones : List ℕ) → IsIdle w → zones ≢ []
    → ((z : ℕ) → Contains zones z → z < w.graph.zones) → (v : World) × Prepares w zones v
prepares_in w zones idle some made = (
  record w { black = outside_set w.graph zones w.black; preparing = Some (first_preparation w zones) },
  record {
    idle = idle;
    made = made;
    some = some;
    world_is = refl;
    black_are = has_outside w.graph zones w.black;
  },
)

-- the world in which marking of the zones that were prepared begins
pub begins_in : (w : World) (p : Preparation) → w.preparing ≡ Some p → (v : World) × Begins w p.zones v
begins_in w p was = (
  record w { preparing = None; collection = Some (first_collection w p) },
  record {
    preparation = p;
    was = was;
    of_zones = refl;
    collection = first_collection w p;
    world_is = refl;
    zones_are = refl;
    marking_are = refl;
    snapshot_is = refl;
    woken_is = refl;
    groups_are = refl;
    tally_is = refl;
    black_starts = has_black_start w;
    live_starts = has_live_start w p.zones;
  },
)
