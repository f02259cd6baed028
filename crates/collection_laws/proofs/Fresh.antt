-- A collection of all zones, while no command comes between its units.
use Rattle.std.proofs.Common.{◌≡◌, ◌≢◌, ◌⊎◌, ◌↔◌, inl, inr, ℕ, List, [], ◌∷◌, refl, sym, ap, subst, ◌∙◌, Some, None}
use Rattle.std.proofs.Common.{Bool, true, false, Contains, eqb, is_some, ◌+◌}
use Rattle.std.specs.List.{list_any}
use Rattle.gz_names.specs.Order.{same_name}
use Rattle.gz_names.specs.declared.names.Name.{Name}
use Rattle.colour_defs.specs.Graph.{GraphState, IsInZones, is_in_zones, zone_of}
use Rattle.colour_defs.specs.Closure.{Closure}
use Rattle.colour_defs.specs.World.{Has, World, Collection, IsPresent, IsSettled, BlackClosure, LiveClosure}
use Rattle.colour_defs.specs.World.{marking_of}
use Rattle.colour_defs.specs.Ends.{zones_without, IsWhiteOf}
use Rattle.colour_defs.specs.Lawful.{Begins, FormsGroups, EndsGroup, IsLawfulSweep, with_sweep}
use Rattle.colour_defs.proofs.Lists.{decided, nothing_in_none, contains_head, contains_tail, contains_cases}
use Rattle.colour_defs.proofs.Membership.{among_to, without_has, zone_in, in_zone}
use Rattle.colour_defs.proofs.Names.{same_name-is, same_name-refl}
use Rattle.colour_defs.proofs.Carried.{present_or, reached_more}
use Rattle.colour_defs.proofs.Finite.{no_name}
use Rattle.collection_laws.specs.Collected.{IsUsed, IsKept}

-- a collection that began in the graph as it is now, with every present cell in its zones: its roots are those of the
-- graph, nothing was woken since, and each present cell whose zone has ended was told live or black
pub record IsFresh (w : World) (k : Collection) : Type 0 where
  pub running : w.collection ≡ Some k
  pub snapshot : k.snapshot ≡ w.graph
  pub woken : (x : Name) → Has k.woken x → ⊥
  pub black : (x : Name) → Has k.black_starts x ↔ Contains w.graph.registers (Some x)
  pub live : (x : Name) → Has k.live_starts x
      ↔ (Contains w.graph.registers (Some x) ⊎ Contains w.graph.slots (Some x))
  pub told : (x : Name) → IsPresent w x → (IsInZones w.graph k.marking x → ⊥)
      → LiveClosure k x ⊎ ((BlackClosure k x → ⊥) → ⊥)
  pub settled : IsSettled w → (x : Name) → Has w.black x ↔ (BlackClosure k x × IsPresent w x)

-- its closures are those of the graph
pub black_used : (w : World) (k : Collection) → IsFresh w k → (x : Name) → BlackClosure k x ↔ IsUsed w.graph x
black_used w k f x = (
  λ r. subst (λ (g : GraphState). Closure g (λ y. Contains w.graph.registers (Some y)) x) f.snapshot
      (reached_more k.snapshot _ _
      (λ y s. elim s [ inl h ↦ (f.black y).0 h | inr h ↦ absurd (f.woken y h) ]) r),
  λ r. reached_more k.snapshot _ _ (λ y s. inl ((f.black y).1 s))
      (subst (λ (g : GraphState). Closure g (λ y. Contains w.graph.registers (Some y)) x) (sym f.snapshot) r),
)

pub live_kept : (w : World) (k : Collection) → IsFresh w k → (x : Name) → LiveClosure k x → IsKept w.graph x
live_kept w k f x r =
    subst (λ (g : GraphState).
    Closure g (λ y. Contains w.graph.registers (Some y) ⊎ Contains w.graph.slots (Some y)) x) f.snapshot
    (reached_more k.snapshot _ _ (λ y s. elim s [ inl h ↦ (f.live y).0 h | inr h ↦ absurd (f.woken y h) ]) r)

-- before it begins
pub record IsReady (w : World) (zones : List ℕ) : Type 0 where
  pub some : zones ≢ []
  pub all : (x : Name) → IsPresent w x → IsInZones w.graph zones x
  pub none : (x : Name) → Has w.black x → ⊥

pub begins_fresh : (w : World) (zones : List ℕ) (v : World) → IsReady w zones → (b : Begins w zones v)
    → IsFresh v b.collection
begins_fresh w zones v ready b =
    let k : Collection = b.collection in
    let n : World = record w { preparing = None; collection = Some b.collection } in
    let black : (x : Name) → Has b.collection.black_starts x → Contains w.graph.registers (Some x) =
    λ x h. elim ((b.black_starts x).0 h) [ inl r ↦ r | inr d ↦ absurd (ready.none x d) ] in
    let fresh : IsFresh n b.collection = record {
      running = refl;
      snapshot = b.snapshot_is;
      woken = λ x h. no_name x (subst (λ s. Has s x) b.woken_is h);
      black = λ x. (black x, λ r. (b.black_starts x).1 (inl r));
      live = λ x. (
        λ h. elim ((b.live_starts x).0 h) [
          | inl d ↦ inl (black x d)
          | inr e ↦ elim e [ inl s ↦ inr s | inr o ↦ absurd (o.1 (ready.all x o.0)) ]
        ],
        λ e. elim e [
          | inl r ↦ (b.live_starts x).1 (inl ((b.black_starts x).1 (inl r)))
          | inr s ↦ (b.live_starts x).1 (inr (inl s))
        ],
      );
      told = λ x p out.
          absurd (out (subst (λ (zs : List ℕ). IsInZones w.graph zs x) (sym b.marking_are) (ready.all x p)));
      settled = λ s x. absurd (ready.some (sym b.marking_are ∙ s.none_marking));
    } in
    subst (λ (z : World). IsFresh z b.collection) (sym b.world_is) fresh

pub forms_fresh : (w : World) (groups : List (List ℕ)) (v : World) (f : FormsGroups w groups v)
    → IsFresh w f.collection → IsFresh v (record f.collection { groups = Some groups })
forms_fresh w groups v f h =
    let k : Collection = record f.collection { groups = Some groups } in
    let n : World = record w { collection = Some k } in
    let fresh : IsFresh n k = record {
      running = refl;
      snapshot = h.snapshot;
      woken = h.woken;
      black = h.black;
      live = h.live;
      told = h.told;
      settled = λ s x.
          h.settled (record {
            none_marking = ap marking_of h.running ∙ s.none_marking;
            none_preparing = s.none_preparing;
          })
          x;
    } in
    subst (λ (z : World). IsFresh z k) (sym f.world_is) fresh

pub sweeps_fresh : (w : World) (arena : ℕ) (freed : List Name) (v : World) (k : Collection)
    → IsLawfulSweep w arena freed v → IsFresh w k → (l : Collection) × IsFresh v l
sweeps_fresh w arena freed v k s h =
    let l : Collection = record k { tally = record k.tally { sweeps = k.tally.sweeps + 1 } } in
    let n : World = record w { out = s.rest; white = v.white; collection = with_sweep w.collection } in
    let fresh : IsFresh n l = record {
      running = ap with_sweep h.running;
      snapshot = h.snapshot;
      woken = h.woken;
      black = h.black;
      live = h.live;
      told = h.told;
      settled = λ t x. h.settled (record {
        none_marking = ap marking_of h.running ∙ sym (ap (λ o. marking_of (with_sweep o)) h.running) ∙ t.none_marking;
        none_preparing = t.none_preparing;
      }) x;
    } in
    (l, subst (λ (z : World). IsFresh z l) (sym s.world_is) fresh)

-- whether a name is in a list
member_or : (xs : List Name) (x : Name) → Contains xs x ⊎ (Contains xs x → ⊥)
member_or [] x = inr (λ c. nothing_in_none x c)
member_or (y ∷ ys) x = go (member_or ys x) (same_name y x) refl
  where
    go : Contains ys x ⊎ (Contains ys x → ⊥) → (b : Bool) → same_name y x ≡ b
        → Contains (y ∷ ys) x ⊎ (Contains (y ∷ ys) x → ⊥)
    go rest true e = inl (subst (λ z. Contains (y ∷ ys) z) (same_name-is y x e) (contains_head y ys))
    go (inl c) false e = inl (contains_tail y ys x c)
    go (inr out) false e = inr (λ c. elim (contains_cases y ys x c) [
      | inl q ↦ let same : same_name y y ≡ false = subst (λ z. same_name y z ≡ false) (sym q) e in
          cc (same, same_name-refl y)
      | inr t ↦ out t
    ])

-- a zone that is not of the group marks on
marks_on : (g : GraphState) (marking group : List ℕ) (x : Name) → IsInZones g marking x
    → (IsInZones g group x → ⊥) → IsInZones g (zones_without marking group) x
marks_on g marking group x here out =
    let z = zone_in g marking x here in
    in_zone g (zones_without marking group) x z.0 z.1
    (without_has marking group z.0 z.2 (go z.0 z.1 (list_any (eqb z.0) group) refl))
  where
    go : (z : ℕ) → zone_of g x ≡ Some z → (b : Bool) → list_any (eqb z) group ≡ b → list_any (eqb z) group ≡ false
    go z at true e = absurd (out (in_zone g group x z at (among_to z group e)))
    go z at false e = e

module _ (w v : World) (group : List ℕ) (grays told : List Name) (e : EndsGroup w group grays told v)
    (f : IsFresh w e.collection) where
  abbrev ended : Collection
  ended = record e.collection {
    marking = zones_without e.collection.marking group;
    groups = Some e.rest;
  }

  was_present : (x : Name) → IsPresent v x → IsPresent w x
  was_present x p = elim (present_or w x) [
    | inl q ↦ q
    | inr out ↦ absurd (out (sym (ap is_some (e.ends.stay x (λ h. out h.present))) ∙ p))
  ]

  -- a present cell of the group is in its list of gray names, or black
  told_here : (x : Name) → IsPresent v x → IsInZones w.graph group x
      → LiveClosure ended x ⊎ ((BlackClosure ended x → ⊥) → ⊥)
  told_here x p here = elim (member_or grays x) [
    | inl c ↦ inl ((e.ends.grays_are.has x).0 c).gray.live
    | inr out ↦ inr (λ dark.
        let white : IsWhiteOf w e.collection group x = record {
          present = was_present x p;
          here = here;
          white = record {
            not_gray = λ g.
                out ((e.ends.grays_are.has x).1 (record { present = was_present x p; here = here; gray = g }));
            not_black = dark;
          };
        } in
        cc (p, ap is_some (e.ends.gone x white)))
  ]

  told_end : (x : Name) → IsPresent v x → (IsInZones v.graph ended.marking x → ⊥)
      → LiveClosure ended x ⊎ ((BlackClosure ended x → ⊥) → ⊥)
  told_end x p out = elim (decided (is_in_zones w.graph group x)) [
    | inl here ↦ told_here x p here
    | inr there ↦ f.told x (was_present x p)
        (λ m. out (subst (λ (g : GraphState). IsInZones g ended.marking x) (sym e.ends.graph_is)
        (marks_on w.graph e.collection.marking group x m there)))
  ]

  pub ends_fresh : IsFresh v ended
  ends_fresh = record {
    running = e.ends.collection_is;
    snapshot = f.snapshot ∙ sym e.ends.graph_is;
    woken = f.woken;
    black = λ x. subst (λ (g : GraphState). Has e.collection.black_starts x ↔ Contains g.registers (Some x))
        (sym e.ends.graph_is) (f.black x);
    live = λ x. subst (λ (g : GraphState). Has e.collection.live_starts x
        ↔ (Contains g.registers (Some x) ⊎ Contains g.slots (Some x))) (sym e.ends.graph_is) (f.live x);
    told = told_end;
    settled = λ s x. e.ends.black_are s x;
  }
