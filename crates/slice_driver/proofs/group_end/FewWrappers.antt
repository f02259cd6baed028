-- How many wrappers a zone has at most: each lies at a slot of its own.
use Rattle.std.proofs.Common.{◌≡◌, ◌≢◌, ◌<◌, ◌≤◌, ◌+◌, ◌*◌, ◌==◌, ℕ, true, List, length, map, get_or, AllPairs}
use Rattle.std.proofs.Common.{Contains, Some, eqb-true, sym, ap, ◌∙◌, arith}
use Rattle.std.specs.List.{list_any}
use Rattle.std.proofs.lemmas.Bool.Decides.{Decides-eqb}
use Rattle.std.proofs.lemmas.List.{get_or-map, length-map}
use Rattle.std.proofs.lemmas.List.Elements.{Contains-get_or}
use Rattle.std.proofs.lemmas.Map.Made.{IsDistinct-from_AllPairs}
use Rattle.std.proofs.lemmas.Map.Steps.{length-le_from_distinct_below}
use Rattle.std.proofs.lemmas.Map.Views.{Contains-from_any}
use Rattle.gz_names.specs.declared.names.Name.{Name}
use Rattle.gz_names.specs.declared.names.Name.TheVariants.{Wrap}
use Rattle.gz_names.specs.declared.numbers.CompNo.{CompNo}
use Rattle.gz_names.specs.declared.numbers.Place.{Place}
use Rattle.wrappers.specs.WrapperMaps.{AreApart, list_of}
use Rattle.wrappers.proofs.Finding.{found-there}
use Rattle.wrappers.specs.declared.wrapper_maps.WrapperKey.{WrapperKey}
use Rattle.colour_defs.specs.Graph.{GraphState}
use Rattle.heap_core.specs.Shape.{AreWhole, name_at}
use Rattle.heap_core.specs.Heap.{HeapState}
use Rattle.heap_core.specs.Shows.{Shows}
use Rattle.slice_driver.proofs.group_end.GrayNames.{present_within}
use Rattle.slice_driver.proofs.abstraction.Named.{named_present}

-- the number of a slot among all slots
abbrev number : WrapperKey × Place → ℕ
number e = 64 * e.1.0 + e.1.1

-- any entry
abbrev some_entry : WrapperKey × Place
some_entry = (record { comp = 0; target = 0 }, record { 0 = 0; 1 = 0 })

abbrev pub key_name : WrapperKey → Name
key_name k = Wrap (record { 0 = k.comp }) k.target

pub same_key : (j k : WrapperKey) → key_name j ≡ key_name k → j ≡ k
same_key j k e =
    let named : ◌≡◌ {A = CompNo} (record { 0 = j.comp }) (record { 0 = k.comp }) = cc e in
    let comp : j.comp ≡ k.comp = ap (λ (c : CompNo). c.0) named in
    let target : j.target ≡ k.target = cc e in
    ap (λ (c : ℕ). record { comp = c; target = j.target }) comp ∙ ap
    (λ (t : ℕ). record { comp = k.comp; target = t }) target

module _ (h : HeapState) (g : GraphState) (whole : AreWhole h.shape.arenas) (shown : Shows h g)
    (apart : AreApart h.shape.wrappers.lists) (z : ℕ) where
  abbrev entries : List (WrapperKey × Place)
  entries = list_of h.shape.wrappers z

  named : (e : WrapperKey × Place) → Contains entries e → name_at h.shape e.1 ≡ Some (key_name e.0)
  named e there = shown.mapped (record { 0 = e.0.comp }) e.0.target e.1
      (found-there h.shape.wrappers.lists z e apart there)

  within : (e : WrapperKey × Place) → Contains entries e → (e.1.0 < length h.shape.arenas) × (e.1.1 < 64)
  within e there = present_within h.shape e.1 whole (named_present h.shape e.1 (key_name e.0) (named e there))

  one_slot : (d e : WrapperKey × Place) → Contains entries d → Contains entries e → number d ≡ number e → d.0 ≡ e.0
  one_slot d e first second same =
      let low = within d first in
      let high = within e second in
      let arena : d.1.0 ≡ e.1.0 = omega (arith, low, high, same) in
      let slot : d.1.1 ≡ e.1.1 = omega (arith, low, high, same) in
      let place : d.1 ≡ e.1 = ap (λ (a : ℕ). record { 0 = a; 1 = d.1.1 }) arena ∙ ap
      (λ (s : ℕ). record { 0 = e.1.0; 1 = s }) slot in
      let names = sym (named d first) ∙ (ap (name_at h.shape) place ∙ named e second) in
      same_key d.0 e.0 (cc names)

  at : (i : ℕ) (n : ℕ) → i < length entries → get_or (map number entries) i n ≡ number (get_or entries i some_entry)
  at i n below = get_or-map number entries i some_entry n below

  distinct : AllPairs (λ (m n : ℕ). m ≢ n) (map number entries)
  distinct i j n before below same =
      let count = length-map entries number in
      let first : i < length entries = omega (arith, count, before, below) in
      let second : j < length entries = omega (arith, count, below) in
      let d = get_or entries i some_entry in
      let e = get_or entries j some_entry in
      let one = one_slot d e (Contains-get_or entries i some_entry first) (Contains-get_or entries j some_entry second)
      (sym (at i n first) ∙ (same ∙ at j n second)) in
      apart.distinct z i j some_entry before second one

  small : (q : ℕ) → list_any (λ m. q == m) (map number entries) ≡ true → q < 64 * length h.shape.arenas
  small q any =
      let found = Contains-from_any (λ x y e. eqb-true x y e) q (map number entries) any in
      let count = length-map entries number in
      let below : found.0 < length entries = omega (arith, count, found.1) in
      let e = get_or entries found.0 some_entry in
      let here = within e (Contains-get_or entries found.0 some_entry below) in
      let is : q ≡ number e = sym found.2 ∙ at found.0 q below in
      omega (arith, here, is)

  -- a zone has no more wrappers than there are slots
  pub few_wrappers : length (list_of h.shape.wrappers z) ≤ 64 * length h.shape.arenas
  few_wrappers =
      let most = length-le_from_distinct_below (map number entries) (64 * length h.shape.arenas)
      (IsDistinct-from_AllPairs Decides-eqb (map number entries) distinct) small in
      let count = length-map entries number in
      omega (arith, most, count)
