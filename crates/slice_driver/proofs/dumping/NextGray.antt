-- The first of some names behind another one, as more names are seen.
use Rattle.std.proofs.Common.{◌≡◌, ◌↔◌, ◌++◌, ◌+◌, ℕ, true, List, [], ◌∷◌, length, Option, Some, None, Contains}
use Rattle.std.proofs.Common.{refl, sym, ap, subst, append_assoc, inl, inr}
use Rattle.std.specs.Ordering.{is_lt}
use Rattle.std.specs.declared.cmp.Ordering.{Ordering}
use Rattle.std.specs.declared.cmp.Ordering.TheVariants.{Less, Equal, Greater}
use Rattle.std.proofs.lemmas.Cmp.{tied_itself}
use Rattle.std.proofs.lemmas.List.{append-nil}
use Rattle.std.proofs.lemmas.List.Elements.{Contains-append_cases, Contains-append_left, Contains-append_right}
use Rattle.gz_names.specs.Order.{name_cmp, names_total}
use Rattle.gz_names.specs.declared.names.Name.{Name}
use Rattle.cell_bits.specs.declared.bits.Bits.{Bits}
use Rattle.colour_defs.specs.World.{World, Has, IsPresent as IsPresentName, IsSettled}
use Rattle.colour_defs.proofs.Lists.{contains_cases, contains_head, nothing_in_none}
use Rattle.heap_core.specs.Heap.{HeapState, joined}
use Rattle.slice_driver.specs.Collector.{CollectorState}
use Rattle.slice_driver.specs.Grays.{grays_below, grays_up_to}
use Rattle.slice_driver.specs.NextGray.{IsBefore, IsBehind, IsNext, Picks}
use Rattle.slice_driver.specs.Represents.{RepresentsMarking}
use Rattle.slice_driver.proofs.group_end.Grays.{grays_more, has_grays}
use Rattle.slice_driver.proofs.group_end.GrayNames.{gray_within, settled_gray}

is_less : (o : Ordering) → is_lt o ≡ true → o ≡ Less
is_less Less e = refl
is_less Equal e = absurd (cc e)
is_less Greater e = absurd (cc e)

not_before_itself : (x : Name) → is_lt (name_cmp x x) ≡ true → ⊥
not_before_itself x lt = cc (ap is_lt (tied_itself names_total x), lt)

before_more : (x y : Name) (next : Option Name) → is_lt (name_cmp x y) ≡ true → IsBefore y next → IsBefore x next
before_more x y None less before = tt
before_more x y (Some z) less before = ap is_lt (names_total.trans x y z (is_less (name_cmp x y) less)
    (is_less (name_cmp y z) before))

-- of no names there is no first one
none_next : (after : Option Name) → IsNext (Contains []) after None
none_next after = record { meets = λ x e. absurd (cc e); first = λ x has behind before. nothing_in_none x has }

pub picks_none : (after next : Option Name) → Picks after next [] next
picks_none after next seen is = subst (λ xs. IsNext (Contains xs) after next) (sym (append-nil seen)) is

pub picks_more : (after old mid new : Option Name) (xs ys : List Name) → Picks after old xs mid → Picks after mid ys new
    → Picks after old (xs ++ ys) new
picks_more after old mid new xs ys early late seen is =
    subst (λ zs. IsNext (Contains zs) after new) (append_assoc seen xs ys) (late (seen ++ xs) (early seen is))

-- a name that comes behind the one and before the first so far
pub picks_it : (after first : Option Name) (x : Name) → IsBehind after x → IsBefore x first
    → Picks after first (x ∷ []) (Some x)
picks_it after first x behind before seen is = record {
  meets = λ y e. (let same : x ≡ y = cc e in (
    subst (λ z. Contains (seen ++ x ∷ []) z) same
        (Contains-append_right seen (x ∷ []) x
        (contains_head x [])),
    subst (λ z. IsBehind after z) same behind,
  ));
  first = λ y has beyond less. elim (Contains-append_cases seen (x ∷ []) y has) [
    | inl early ↦ is.first y early beyond (before_more y x first less before)
    | inr last ↦ elim (contains_cases x [] y last) [
      | inl same ↦ not_before_itself x (subst (λ z. is_lt (name_cmp z x) ≡ true) (sym same) less)
      | inr none ↦ nothing_in_none y none
    ]
  ];
}

-- one that does not
pub passes_it : (after first : Option Name) (x : Name) → (IsBehind after x → IsBefore x first → ⊥)
    → Picks after first (x ∷ []) first
passes_it after first x off seen is = record {
  meets = λ y e. (let was = is.meets y e in (Contains-append_left seen (x ∷ []) y was.0, was.1));
  first = λ y has beyond less. elim (Contains-append_cases seen (x ∷ []) y has) [
    | inl early ↦ is.first y early beyond less
    | inr last ↦ elim (contains_cases x [] y last) [
      | inl same ↦ off (subst (λ z. IsBehind after z) (sym same) beyond) (subst (λ z. IsBefore z first) (sym same) less)
      | inr none ↦ nothing_in_none y none
    ]
  ];
}

-- one arena more
pub picks_arena : (h : HeapState) (a : ℕ) (after old mid new : Option Name)
    → Picks after old (grays_up_to h (λ a. true) a) mid → Picks after mid (grays_below h a 64) new
    → Picks after old (grays_up_to h (λ a. true) (a + 1)) new
picks_arena h a after old mid new early late =
    subst (λ xs. Picks after old xs new) (grays_more h (λ a. true) a (grays_up_to h (λ a. true) a)
    (grays_up_to h (λ a. true) a ++ grays_below h a 64) refl refl refl)
    (picks_more after old mid new (grays_up_to h (λ a. true) a) (grays_below h a 64) early late)

next_as : (P Q : Name → Type 0) (after next : Option Name) → ((x : Name) → P x ↔ Q x) → IsNext P after next
    → IsNext Q after next
next_as P Q after next same is = record {
  meets = λ x e. (let was = is.meets x e in ((same x).0 was.0, was.1));
  first = λ x q. is.first x ((same x).1 q);
}

-- what was picked of all arenas is the next gray name of a settled world
pub settled_next : (c : CollectorState) (flown : ℕ → Option Bits) (w : World) (after next : Option Name)
    → RepresentsMarking c flown w → IsSettled w
    → Picks after None (grays_up_to (joined c.heap flown) (λ a. true) (length c.heap.shape.arenas)) next
    → IsNext (λ x. IsPresentName w x × (Has w.black x → ⊥)) after next
settled_next c flown w after next rep settled picked =
    next_as (Contains (grays_up_to (joined c.heap flown) (λ a. true) (length c.heap.shape.arenas)))
    (λ x. IsPresentName w x × (Has w.black x → ⊥)) after next
    (λ x. (let has = has_grays (joined c.heap flown) (λ a. true) (length c.heap.shape.arenas)
    (gray_within c flown w rep) x in
    let gray = settled_gray c flown w rep settled x in (λ c. gray.0 (has.0 c), λ p. has.1 (gray.1 p))))
    (picked [] (none_next after))
