-- Wrappers at the places to which they have gone.
use Rattle.std.proofs.Common.{◌≡◌, ◌≢◌, ◌<◌, ℕ, zero, suc, List, [], ◌∷◌, length, get_or, set, map, Contains, AllPairs}
use Rattle.std.proofs.Common.{inl, inr}
use Rattle.std.proofs.Common.{Option, refl, sym, ap, ◌∙◌, subst, arith}
use Rattle.std.specs.List.{slice_get}
use Rattle.std.proofs.lemmas.Bool.{cases_eq, cases_lt}
use Rattle.std.proofs.lemmas.List.Elements.{Contains-get_or}
use Rattle.std.proofs.lemmas.List.{get_or-map, get_or-set_same, get_or-set_other, length-map, length-set, set_past}
use Rattle.gz_names.specs.Moves.{moved}
use Rattle.gz_names.specs.declared.moves.Move.{Move}
use Rattle.gz_names.specs.declared.numbers.Place.{Place}
use Rattle.gz_names.specs.declared.numbers.ZoneNo.{ZoneNo}
use Rattle.wrappers.specs.WrapperMaps.{list_at, all_forwarded, AreSound}
use Rattle.wrappers.specs.declared.wrapper_maps.WrapperKey.{WrapperKey}

abbrev with_forwarded : List (List (WrapperKey × Place)) → ℕ → List Move → List (List (WrapperKey × Place))
with_forwarded lists zone moves = set lists zone (all_forwarded moves (list_at lists zone))

-- each entry has the key of one that was there, at the same place of the list
forwarded-at : (moves : List Move) (entries : List (WrapperKey × Place)) (k : ℕ) (d : WrapperKey × Place)
    → k < length entries → (get_or (all_forwarded moves entries) k d).0 ≡ (get_or entries k d).0
forwarded-at moves entries k d lt =
    ap (λ (e : WrapperKey × Place). e.0) (get_or-map (λ (e : WrapperKey × Place). (e.0, moved moves e.1)) entries k d d
    lt)

-- each list is as long, with the keys that it had
list-forwarded : (lists : List (List (WrapperKey × Place))) (zone : ℕ) (moves : List Move) (z : ℕ)
    → (length (list_at (with_forwarded lists zone moves) z) ≡ length (list_at lists z))
    × ((k : ℕ) (d : WrapperKey × Place) → k < length (list_at lists z)
    → (get_or (list_at (with_forwarded lists zone moves) z) k d).0 ≡ (get_or (list_at lists z) k d).0)
list-forwarded lists zone moves z = elim (cases_eq z zone) [
  | inl e ↦ elim (cases_lt zone (length lists)) [
    | inl inside ↦ (let same : list_at (with_forwarded lists zone moves) z ≡ all_forwarded moves (list_at lists z) =
        ap (λ n. list_at (with_forwarded lists zone moves) n) e
        ∙ get_or-set_same lists zone (all_forwarded moves (list_at lists zone)) [] inside
        ∙ ap (λ n. all_forwarded moves (list_at lists n)) (sym e) in (
          ap length same ∙ length-map (list_at lists z) (λ (e : WrapperKey × Place). (e.0, moved moves e.1)),
          λ k d lt. ap (λ l. (get_or l k d).0) same ∙ forwarded-at moves (list_at lists z) k d lt,
        ))
    | inr past ↦ (let same = set_past lists zone (all_forwarded moves (list_at lists zone)) past in
        (ap (λ ls. length (list_at ls z)) same, λ k d lt. ap (λ ls. (get_or (list_at ls z) k d).0) same))
  ]
  | inr ne ↦ (let same : list_at (with_forwarded lists zone moves) z ≡ list_at lists z =
      get_or-set_other lists zone z (all_forwarded moves (list_at lists zone)) [] ne in
      (ap length same, λ k d lt. ap (λ l. (get_or l k d).0) same))
]

-- what always holds, at the new places
pub AreSound-forwarded : (lists : List (List (WrapperKey × Place))) (homes : List (Option ZoneNo)) (zone : ℕ)
    (moves : List Move) → AreSound lists homes → AreSound (with_forwarded lists zone moves) homes
AreSound-forwarded lists homes zone moves h = record {
  zones = length-set lists zone (all_forwarded moves (list_at lists zone)) ∙ h.zones;
  comps = h.comps;
  at_home = λ z entry there.
      (let here = list-forwarded lists zone moves z in
      let lt : there.0 < length (list_at lists z) = (let within = there.1 in omega (arith, within, here.0)) in
      let key : (get_or (list_at lists z) there.0 entry).0 ≡ entry.0 =
      sym (here.1 there.0 entry lt) ∙ ap (λ (e : WrapperKey × Place). e.0) there.2 in
      ap (λ (k : WrapperKey). slice_get homes k.comp) (sym key)
      ∙ h.at_home z (get_or (list_at lists z) there.0 entry) (Contains-get_or (list_at lists z) there.0 entry lt));
  distinct = λ z i j d less within same.
      (let here = list-forwarded lists zone moves z in
      let lt : j < length (list_at lists z) = omega (arith, within, here.0) in
      h.distinct z i j d less lt
      (sym (here.1 i d (omega (arith, less, lt))) ∙ same ∙ here.1 j d lt));
}
