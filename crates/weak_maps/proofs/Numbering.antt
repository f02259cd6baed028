-- The numbers of lists, by pages.
use Rattle.std.proofs.Common.{◌≡◌, ◌≢◌, ◌<◌, ◌≤◌, ◌+◌, ◌++◌, ◌∷◌, ◌⊎◌, [], inl, inr, ℕ, zero, suc, Bool, true, false}
use Rattle.std.proofs.Common.{cond, List, Option, Some, None, length, get_or, replicate, refl, sym, ◌∙◌, ap, arith}
use Rattle.std.proofs.Common.{length-append, length-set}
use Rattle.std.specs.Prelude.{slice_set as set, slice_get}
use Rattle.std.specs.Option.{option_and_then}
use Rattle.std.proofs.lemmas.Bool.{false≢true, cases_eq, cases_lt}
use Rattle.std.proofs.lemmas.Option.{slice_get_within, slice_get_past, slice_get-get_or, same_Some}
use Rattle.gz_names.specs.declared.numbers.Place.{Place}
use Rattle.weak_maps.specs.Places.{is_same}
use Rattle.weak_maps.specs.Heads.{HeadsState, ArePages, number_from, number_at, page_of, on_page, head_of}
use Rattle.weak_maps.proofs.Places.{is_same-true, is_same-self}
use Rattle.weak_maps.proofs.Reading.{slice_get-set_same, slice_get-set_other, slice_get-push_at}
use Rattle.weak_maps.proofs.Reading.{slice_get-push_before, slice_get-push_cases}

-- what stands at a slot
abbrev on : ℕ → Option (List ℕ) → Option ℕ
on s o = option_and_then (λ (ns : List ℕ). number_at ns s) o

-- where the number of a place's list stands: on the page of its arena, at its slot
pub record StandsAt (heads : HeadsState) (p : Place) (page slot : ℕ) (numbers : List ℕ) : Type 0 where
  pub are : ArePages heads
  pub has : page_of heads p.0 ≡ Some page
  pub read : slice_get heads.pages page ≡ Some numbers
  pub slot_is : slot ≡ p.1
  pub within : p.1 < length numbers

-- a number is put there
module _ (heads : HeadsState) (p : Place) (kept page slot : ℕ) (numbers : List ℕ)
    (at : StandsAt heads p page slot numbers) where
  abbrev pub put : List ℕ
  put = set numbers slot kept

  abbrev pub new : HeadsState
  new = record { arenas = heads.arenas; pages = set heads.pages page put }

  here : slice_get new.pages page ≡ Some put
  here = slice_get-set_same heads.pages page put (slice_get_within heads.pages page numbers at.read)

  at_slot : number_at put p.1 ≡ number_from kept
  at_slot = ap (λ (i : ℕ). number_at put i) (sym at.slot_is)
      ∙ ap (option_and_then number_from)
      (slice_get-set_same numbers slot kept (omega (arith, at.slot_is, at.within)))

  pub head_of-put : (q : Place) → head_of new q ≡ cond (is_same p q) (number_from kept) (head_of heads q)
  head_of-put q = by (is_same p q) refl
    where
      other_arena : (o : Option ℕ) → page_of heads q.0 ≡ o → q.0 ≢ p.0
          → on_page new.pages q.1 o ≡ on_page heads.pages q.1 o
      other_arena None e other = refl
      other_arena (Some m) e other = ap (on q.1) (slice_get-set_other heads.pages page m put
          (λ same. other (at.are.apart q.0 p.0 page (e ∙ ap (λ (m : ℕ). Some m) same) at.has)))

      by : (b : Bool) → is_same p q ≡ b → head_of new q ≡ cond b (number_from kept) (head_of heads q)
      by true e = ap (λ (r : Place). head_of new r) (sym (is_same-true p q e))
          ∙ (ap (on_page new.pages p.1) at.has ∙ (ap (on p.1) here ∙ at_slot))
      by false e = elim (cases_eq q.0 p.0) [
        | inl same ↦
            let apart : q.1 ≢ slot = λ slots.
            false≢true (sym e ∙ (ap (is_same p) (λ i. (same i, (slots ∙ at.slot_is) i)) ∙ is_same-self p)) in
            let there : page_of heads q.0 ≡ Some page = ap (page_of heads) same ∙ at.has in
            ap (on_page new.pages q.1) there ∙ (ap (on q.1) here
            ∙ (ap (option_and_then number_from) (slice_get-set_other numbers slot q.1 kept apart)
            ∙ (ap (on q.1) (sym at.read) ∙ ap (on_page heads.pages q.1) (sym there))))
        | inr other ↦ other_arena (page_of heads q.0) refl other
      ]

  pub pages-put : ArePages new
  pages-put = record {
    within = λ a m has.
        (let less = at.are.within a m has in let same = length-set heads.pages page put in omega (arith, less, same));
    apart = at.are.apart;
    sized = λ m ns there. elim (cases_eq m page) [
      | inl same ↦
          let is = same_Some _ _ (sym here ∙ (ap (slice_get new.pages) (sym same) ∙ there)) in
          let long : length put ≡ length ns = ap (λ (l : List ℕ). length l) is in
          let as_long = length-set numbers slot kept in
          let was = at.are.sized page numbers at.read in
          omega (arith, long, as_long, was)
      | inr other ↦ at.are.sized m ns (sym (slice_get-set_other heads.pages page m put other) ∙ there)
    ];
  }

-- zeros come behind the numbers
pub number_at-resized : (old new : List ℕ) (n : ℕ) → length old ≤ n → length new ≡ n
    → ((k d : ℕ) → k < n → k < length old → get_or new k d ≡ get_or old k d)
    → ((k d : ℕ) → length old ≤ k → k < n → get_or new k d ≡ 0) → (k : ℕ) → number_at new k ≡ number_at old k
number_at-resized old new n most sized before after k = elim (cases_lt k (length old)) [
  | inl less ↦ ap (option_and_then number_from)
      (slice_get-get_or new k 0 (omega (arith, less, most, sized))
      ∙ (ap (λ (m : ℕ). Some m) (before k 0 (omega (arith, less, most)) less) ∙ sym (slice_get-get_or old k 0 less)))
  | inr past ↦ elim (cases_lt k n) [
    | inl within ↦ ap (option_and_then number_from)
        (slice_get-get_or new k 0 (omega (arith, within, sized)) ∙ ap (λ (m : ℕ). Some m) (after k 0 past within))
        ∙ sym (ap (option_and_then number_from) (slice_get_past old k past))
    | inr beyond ↦ ap (option_and_then number_from)
        (slice_get_past new k (omega (arith, beyond, sized)) ∙ sym (slice_get_past old k past))
  ]
]

pub number_at-zeros : (n i : ℕ) → number_at (replicate n 0) i ≡ None
number_at-zeros zero i = refl
number_at-zeros (suc n) zero = refl
number_at-zeros (suc n) (suc i) = number_at-zeros n i

-- a page comes for an arena that has none, with zeros alone
pub record Comes (heads : HeadsState) (a n : ℕ) (longer zeros : List ℕ) (pages : List (List ℕ)) : Type 0 where
  pub are : ArePages heads
  pub none : page_of heads a ≡ None
  pub number : n ≡ length heads.pages
  pub comes : pages ≡ heads.pages ++ zeros ∷ []
  pub same : (b : ℕ) → number_at longer b ≡ page_of heads b
  pub there : a < length longer
  pub sized : length zeros ≡ 64
  pub blank : (i : ℕ) → number_at zeros i ≡ None

module _ (heads : HeadsState) (a n : ℕ) (longer zeros : List ℕ) (pages : List (List ℕ))
    (page : Comes heads a n longer zeros pages) where
  abbrev pub more : HeadsState
  more = record { arenas = set longer a (n + 1); pages = pages }

  pub page_of-new : page_of more a ≡ Some n
  page_of-new = ap (option_and_then number_from) (slice_get-set_same longer a (n + 1) page.there)
      ∙ ap number_from (let next : n + 1 ≡ suc n = omega arith in next)

  page_of-other : (b : ℕ) → b ≢ a → page_of more b ≡ page_of heads b
  page_of-other b other = ap (option_and_then number_from) (slice_get-set_other longer a b (n + 1) other) ∙ page.same b

  new_page : slice_get pages n ≡ Some zeros
  new_page = ap (λ (ps : List (List ℕ)). slice_get ps n) page.comes
      ∙ (ap (slice_get (heads.pages ++ zeros ∷ [])) page.number ∙ slice_get-push_at heads.pages zeros)

  pub head_of-more : (q : Place) → head_of more q ≡ head_of heads q
  head_of-more q = elim (cases_eq q.0 a) [
    | inl is ↦
        ap (on_page pages q.1) (ap (page_of more) is ∙ page_of-new)
        ∙ (ap (on q.1) new_page
        ∙ (page.blank q.1 ∙ sym (ap (on_page heads.pages q.1) (ap (page_of heads) is ∙ page.none))))
    | inr other ↦ ap (on_page pages q.1) (page_of-other q.0 other) ∙ kept (page_of heads q.0) refl
  ]
    where
      kept : (o : Option ℕ) → page_of heads q.0 ≡ o → on_page pages q.1 o ≡ on_page heads.pages q.1 o
      kept None e = refl
      kept (Some m) e = ap (on q.1) (ap (λ (ps : List (List ℕ)). slice_get ps m) page.comes
          ∙ slice_get-push_before heads.pages m zeros (page.are.within q.0 m e))

  was : (b m : ℕ) → page_of more b ≡ Some m → ((b ≡ a) × (m ≡ n)) ⊎ (page_of heads b ≡ Some m)
  was b m at = elim (cases_eq b a) [
    | inl is ↦ inl (is, sym (same_Some _ _ (sym page_of-new ∙ (ap (page_of more) (sym is) ∙ at))))
    | inr other ↦ inr (sym (page_of-other b other) ∙ at)
  ]

  pub pages-more : ArePages more
  pages-more = record {
    within = λ b m at. elim (was b m at) [
      | inl (_, is) ↦ omega (arith, long, is, page.number)
      | inr old ↦ (let less = page.are.within b m old in omega (arith, long, less))
    ];
    apart = λ b c m at too. elim (was b m at) [
      | inl (is, last) ↦ (elim (was c m too) [
        | inl (also, _) ↦ is ∙ sym also
        | inr old ↦ absurd (not_last m last (page.are.within c m old))
      ])
      | inr old ↦ (elim (was c m too) [
        | inl (_, last) ↦ absurd (not_last m last (page.are.within b m old))
        | inr also ↦ page.are.apart b c m old also
      ])
    ];
    sized = λ m ns at. elim (slice_get-push_cases heads.pages m zeros ns
        (ap (λ (ps : List (List ℕ)). slice_get ps m) (sym page.comes) ∙ at)) [
          | inl (_, is) ↦ ap (λ (l : List ℕ). length l) is ∙ page.sized
          | inr (_, old) ↦ page.are.sized m ns old
        ];
  }
    where
      long : length pages ≡ length heads.pages + 1
      long = ap (λ (ps : List (List ℕ)). length ps) page.comes ∙ length-append heads.pages (zeros ∷ [])

      not_last : (m : ℕ) → m ≡ n → m < length heads.pages → ⊥
      not_last m is less = omega (arith, is, less, page.number)
