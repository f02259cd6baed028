-- The edges between zones, as they are noted and as the definitions have them.
use Rattle.std.proofs.Common.{◌≡◌, ◌≢◌, ◌⊎◌, ◌↔◌, inl, inr, ℕ, ◌+◌, ◌<◌, ◌≤◌, List, [], ◌∷◌}
use Rattle.std.proofs.Common.{length, get_or, replicate, take, Some, Contains, refl, sym, subst, arith}
use Rattle.std.specs.Prelude.{slice_index_or}
use Rattle.std.specs.Map.{keys_of}
use Rattle.std.proofs.Math.ListN.{length-replicate}
use Rattle.std.proofs.lemmas.Bool.{cases_eq, cases_lt}
use Rattle.std.proofs.lemmas.List.{get_or-replicate, get_or_past, take_all, take_more}
use Rattle.std.proofs.lemmas.List.Elements.{Contains-push_cases}
use Rattle.gz_names.specs.Zones.{HasZone, zones_in}
use Rattle.gz_names.specs.declared.zone_sets.ZoneSet.{ZoneSet}
use Rattle.gz_names.specs.declared.names.Name.{Name}
use Rattle.gz_names.specs.declared.numbers.Place.{Place}
use Rattle.gz_names.proofs.Words.{HasZone-none}
use Rattle.colour_defs.specs.Graph.{GraphState, value_of}
use Rattle.colour_defs.specs.Groups.{LeadsWithin, here, next}
use Rattle.colour_defs.proofs.Lists.{nothing_in_none, contains_head, contains_tail, contains_cases}
use Rattle.colour_defs.proofs.ZoneSets.{zones_in-has}
use Rattle.judge.specs.Cells.{Cells, HasCell}
use Rattle.judge.specs.Edges.{AreEdges, AreForward, AreInOrder, AreStrong, IsEdge, IsEntryOf, IsKeyOf, IsNoted}
use Rattle.judge.specs.Edges.{IsStrong, Leads, Makes, Notes, Sources, no_zones, sources_of}
use Rattle.judge.specs.declared.collection.Collection.{Collection}
use Rattle.judge.specs.declared.edges.ZoneEdges.{ZoneEdges}
use Rattle.judge.proofs.Cells.{cell_among}

-- where no edge is noted
pub none_noted : (a b : ℕ) → HasZone (slice_index_or (replicate 64 no_zones) a no_zones).bits b → ⊥
none_noted a b h = elim (cases_lt a 64) [
  | inl lt ↦ HasZone-none b
      (subst (λ (s : ZoneSet). HasZone s.bits b) (get_or-replicate 64 a no_zones no_zones lt) h)
  | inr ge ↦ HasZone-none b (subst (λ (s : ZoneSet). HasZone s.bits b)
      (get_or_past (replicate 64 no_zones) a no_zones (omega (arith, length-replicate {A = ZoneSet} 64 no_zones))) h)
]

-- no pair so far is an entry with this key
abbrev pub NoneSoFar : GraphState → Cells → Name → List (Name × Name) → Type 0
NoneSoFar g cells key pairs = (p : Name × Name) → Contains pairs p → IsEntryOf g cells p key → ⊥

pub none_start : (g : GraphState) (cells : Cells) (key : Name) → NoneSoFar g cells key []
none_start g cells key p c = absurd (nothing_in_none p c)

pub none_more : (g : GraphState) (cells : Cells) (key : Name) (pairs : List (Name × Name)) (i : ℕ) (d : Name × Name)
    → i < length pairs → (IsEntryOf g cells (get_or pairs i d) key → ⊥) → NoneSoFar g cells key (take i pairs)
    → NoneSoFar g cells key (take (i + 1) pairs)
none_more g cells key pairs i d below none so =
    subst (λ ps. NoneSoFar g cells key ps) (sym (take_more pairs i d below)) (λ p c.
    elim (Contains-push_cases (take i pairs) (get_or pairs i d) p c) [
      | inl o ↦ so p o
      | inr e ↦ λ is. none (subst (λ (q : Name × Name). IsEntryOf g cells q key) (sym e) is)
    ])

pub key_of : (g : GraphState) (cells : Cells) (pair : Name × Name) (key : Name) → IsEntryOf g cells pair key
    → IsKeyOf g cells key
key_of g cells pair key is =
    (pair.0, is.value, subst (λ k. value_of g pair.0 k ≡ Some is.value) is.key_is is.found, is.present)

-- the edges that a name makes are noted
pub notes_none : (s : Sources) (x : Name) (edges : ZoneEdges) → ((a b : ℕ) → Leads s x a b → ⊥)
    → Notes s x edges edges
notes_none s x edges none a b = (
  λ h. inl h,
  λ h. elim h [ inl o ↦ o | inr m ↦ elim m [ inl l ↦ absurd (none a b l) | inr k ↦ absurd (none b a k.1) ] ],
)

-- an edge is noted
abbrev pub NotesOne : ZoneEdges → ℕ → ℕ → ZoneEdges → Type 0
NotesOne old from to new = (a b : ℕ) → IsNoted new a b ↔ (IsNoted old a b ⊎ ((a ≡ from) × (b ≡ to)))

-- a name leads along one edge alone
pub leads_one : (s : Sources) (x : Name) (a b c d : ℕ) → Leads s x a b → Leads s x c d → (c ≡ a) × (d ≡ b)
leads_one s x a b c d l m = (cc (l.of, m.of), cc (l.wrapper, m.wrapper, l.into, m.into))

pub leads_at : (s : Sources) (x : Name) (a b c d : ℕ) → c ≡ a → d ≡ b → Leads s x a b → Leads s x c d
leads_at s x a b c d e f l =
    subst (λ n. Leads s x n d) (sym e) (subst (λ n. Leads s x a n) (sym f) l)

pub notes_along : (s : Sources) (x : Name) (from to : ℕ) (old new : ZoneEdges) → Leads s x from to
    → (IsKeyOf s.entries s.cells x → ⊥) → NotesOne old from to new → Notes s x old new
notes_along s x from to old new leads free one a b = (
  λ h. elim ((one a b).0 h) [ inl o ↦ inl o | inr e ↦ inr (inl (leads_at s x from to a b e.0 e.1 leads)) ],
  λ h. elim h [
    | inl o ↦ (one a b).1 (inl o)
    | inr m ↦ elim m [ inl l ↦ (one a b).1 (inr (leads_one s x from to a b leads l)) | inr k ↦ absurd (free k.0) ]
  ],
)

-- the edges of the names that were passed are noted, and no others; these entries are left
pub record NotesSoFar (s : Sources) (left : List (Name × Place)) (edges : ZoneEdges) : Type 0 where
  pub within : (x : Name) → Contains (keys_of left) x → HasCell s.cells x
  pub only : (a b : ℕ) → IsNoted edges a b → IsEdge s a b
  pub all : (x : Name) (a b : ℕ) → HasCell s.cells x → Makes s x a b → IsNoted edges a b ⊎ Contains (keys_of left) x

pub noted_none : (s : Sources) (left : List (Name × Place)) (edges : ZoneEdges) → left ≡ s.cells.entries
    → ((a b : ℕ) → IsNoted edges a b → ⊥) → NotesSoFar s left edges
noted_none s left edges e none = record {
  within = λ x c. (cell_among s.cells x).1 (subst (λ (es : List (Name × Place)). Contains (keys_of es) x) e c);
  only = λ a b h. absurd (none a b h);
  all = λ x a b h m. inr (subst (λ (es : List (Name × Place)). Contains (keys_of es) x) (sym e)
      ((cell_among s.cells x).0 h));
}

pub noted_more : (s : Sources) (left more : List (Name × Place)) (e : Name × Place) (old new : ZoneEdges)
    → left ≡ e ∷ more → Notes s e.0 old new → NotesSoFar s left old → NotesSoFar s more new
noted_more s left more e old new is notes so = record {
  within = λ x c. so.within x (subst (λ (es : List (Name × Place)). Contains (keys_of es) x) (sym is)
      (contains_tail e.0 (keys_of more) x c));
  only = λ a b h. elim ((notes a b).0 h) [
    | inl o ↦ so.only a b o
    | inr m ↦ (
      e.0,
      so.within e.0 (subst (λ (es : List (Name × Place)). Contains (keys_of es) e.0) (sym is)
          (contains_head e.0 (keys_of more))),
      m,
    )
  ];
  all = λ x a b h m. elim (so.all x a b h m) [
    | inl o ↦ inl ((notes a b).1 (inl o))
    | inr c ↦ elim (contains_cases e.0 (keys_of more) x
        (subst (λ (es : List (Name × Place)). Contains (keys_of es) x) is c)) [
          | inl same ↦ inl ((notes a b).1 (inr (subst (λ y. Makes s y a b) (sym same) m)))
          | inr rest ↦ inr rest
        ]
  ];
}

pub noted_all : (s : Sources) (left : List (Name × Place)) (edges : ZoneEdges) → left ≡ [] → NotesSoFar s left edges
    → AreEdges s edges
noted_all s left edges none so a b = (
  so.only a b,
  λ h. elim (so.all h.0 a b h.1 h.2) [
    | inl o ↦ o
    | inr c ↦ absurd (nothing_in_none h.0 (subst (λ (es : List (Name × Place)). Contains (keys_of es) h.0) none c))
  ],
)

-- a search within a group: some zones are reached, these are not passed yet
pub record Searches (E : ℕ → ℕ → Type 0) (group : ZoneSet) (start : ℕ) (reached rest : ZoneSet) : Type 0 where
  pub first : HasZone reached.bits start
  pub leads : (z : ℕ) → HasZone reached.bits z → LeadsWithin E (zones_in group) start z
  pub within : (z : ℕ) → HasZone reached.bits z → HasZone group.bits z
  pub others : (z : ℕ) → HasZone group.bits z → HasZone rest.bits z ⊎ HasZone reached.bits z
  pub passed : (z y : ℕ) → HasZone reached.bits z → E z y → HasZone group.bits y
      → HasZone rest.bits z ⊎ HasZone reached.bits y

pub search_first : (E : ℕ → ℕ → Type 0) (group : ZoneSet) (start : ℕ) (reached : ZoneSet) → HasZone group.bits start
    → ((z : ℕ) → HasZone reached.bits z ↔ (z ≡ start)) → Searches E group start reached group
search_first E group start reached inside only = record {
  first = (only start).1 refl;
  leads = λ z h. subst (λ y. LeadsWithin E (zones_in group) start y) (sym ((only z).0 h)) here;
  within = λ z h. subst (λ y. HasZone group.bits y) (sym ((only z).0 h)) inside;
  others = λ z g. inl g;
  passed = λ z y h e g. inl (subst (λ x. HasZone group.bits x) (sym ((only z).0 h)) inside);
}

-- what edges lead to within a group is reached, once each reached zone was passed
pub search_all : (E : ℕ → ℕ → Type 0) (group : ZoneSet) (start : ℕ) (reached rest : ZoneSet)
    → ((z : ℕ) → HasZone rest.bits z → HasZone reached.bits z → ⊥) → Searches E group start reached rest → (z : ℕ)
    → HasZone reached.bits z ↔ LeadsWithin E (zones_in group) start z
search_all E group start reached rest none so z = (so.leads z, λ p. found p)
  where
    found : {y : ℕ} → LeadsWithin E (zones_in group) start y → HasZone reached.bits y
    found here = so.first
    found (next {b = b} {c = c} p e g) = elim (so.passed b c (found p) e ((zones_in-has group c).0 g)) [
      | inl r ↦ absurd (none b r (found p))
      | inr h ↦ h
    ]

-- from the zones of a group that were looked at, edges lead to all of it; these are left
abbrev pub LeadsAllSoFar : (ℕ → ℕ → Type 0) → ZoneSet → ZoneSet → Type 0
LeadsAllSoFar E group rest = (a b : ℕ) → HasZone group.bits a → HasZone group.bits b
    → HasZone rest.bits a ⊎ LeadsWithin E (zones_in group) a b

pub leads_more : (E : ℕ → ℕ → Type 0) (group rest left : ZoneSet) (zone : ℕ)
    → ((b : ℕ) → HasZone group.bits b → LeadsWithin E (zones_in group) zone b)
    → ((z : ℕ) → HasZone left.bits z ↔ (HasZone rest.bits z × (z ≢ zone))) → LeadsAllSoFar E group rest
    → LeadsAllSoFar E group left
leads_more E group rest left zone all without so a b ha hb = elim (cases_eq a zone) [
  | inl same ↦ inr (subst (λ x. LeadsWithin E (zones_in group) x b) (sym same) (all b hb))
  | inr other ↦ elim (so a b ha hb) [ inl r ↦ inl ((without a).1 (r, other)) | inr p ↦ inr p ]
]

pub leads_all : (E : ℕ → ℕ → Type 0) (group rest : ZoneSet) → ((z : ℕ) → HasZone rest.bits z → ⊥)
    → LeadsAllSoFar E group rest → IsStrong E group
leads_all E group rest none so a b ha hb =
    elim (so a b ha hb) [ inl r ↦ absurd (none a r) | inr p ↦ p ]

-- the groups so far are strong
pub strong_none : (E : ℕ → ℕ → Type 0) → AreStrong E []
strong_none E group c = absurd (nothing_in_none group c)

pub strong_more : (E : ℕ → ℕ → Type 0) (groups : List ZoneSet) (i : ℕ) (d : ZoneSet) → i < length groups
    → IsStrong E (get_or groups i d) → AreStrong E (take i groups) → AreStrong E (take (i + 1) groups)
strong_more E groups i d below is so =
    subst (λ gs. AreStrong E gs) (sym (take_more groups i d below)) (λ group c.
    elim (Contains-push_cases (take i groups) (get_or groups i d) group c) [
      | inl o ↦ so group o
      | inr e ↦ subst (λ g. IsStrong E g) e is
    ])

pub strong_all : (E : ℕ → ℕ → Type 0) (groups : List ZoneSet) (i : ℕ) → length groups ≤ i
    → AreStrong E (take i groups) → AreStrong E groups
strong_all E groups i le so = subst (λ gs. AreStrong E gs) (take_all i groups le) so

-- no edge leads from the groups so far to earlier ones, and these are their zones
pub record ForwardSoFar (E : ℕ → ℕ → Type 0) (earlier : ZoneSet) (groups : List ZoneSet) : Type 0 where
  pub has : (g : ZoneSet) (z : ℕ) → Contains groups g → HasZone g.bits z → HasZone earlier.bits z
  pub of : (z : ℕ) → HasZone earlier.bits z → (g : ZoneSet) × Contains groups g × HasZone g.bits z
  pub forward : AreForward E groups

pub forward_none : (E : ℕ → ℕ → Type 0) (earlier : ZoneSet) → ((z : ℕ) → HasZone earlier.bits z → ⊥)
    → ForwardSoFar E earlier []
forward_none E earlier none = record {
  has = λ g z c. absurd (nothing_in_none g c);
  of = λ z h. absurd (none z h);
  forward = λ i j d below within. absurd (omega arith);
}

pub forward_all : (E : ℕ → ℕ → Type 0) (earlier : ZoneSet) (groups : List ZoneSet) (i : ℕ) → length groups ≤ i
    → ForwardSoFar E earlier (take i groups) → AreForward E groups
forward_all E earlier groups i le so =
    let all : ForwardSoFar E earlier groups = subst (λ gs. ForwardSoFar E earlier gs) (take_all i groups le) so in
    all.forward

-- ways along the same edges
pub leads_as : (E F : ℕ → ℕ → Type 0) (g : List ℕ) → ((a b : ℕ) → E a b → F a b) → {a b : ℕ} → LeadsWithin E g a b
    → LeadsWithin F g a b
leads_as E F g f here = here
leads_as E F g f (next p e c) = next (leads_as E F g f p) (f _ _ e) c

pub strong_as : (E F : ℕ → ℕ → Type 0) (groups : List ZoneSet) → ((a b : ℕ) → E a b → F a b) → AreStrong E groups
    → AreStrong F groups
strong_as E F groups f strong = λ g c a b ha hb. leads_as E F (zones_in g) f (strong g c a b ha hb)

pub forward_as : (E F : ℕ → ℕ → Type 0) (groups : List ZoneSet) → ((a b : ℕ) → F a b → E a b) → AreForward E groups
    → AreForward F groups
forward_as E F groups f forward = λ i j d lt below a b ha hb e. forward i j d lt below a b ha hb (f a b e)

pub not_strong : (graph former : GraphState) (cells : Cells) (old new : Collection) (first : ZoneEdges)
    (groups : List ZoneSet) → AreEdges (sources_of graph former cells old) first
    → (AreStrong (IsNoted first) groups → ⊥) → AreInOrder graph former cells old new groups → ⊥
not_strong graph former cells old new first groups noted none order =
    none (strong_as (IsEdge (sources_of graph former cells old)) (IsNoted first) groups (λ a b. (noted a b).1)
    order.strong)
