-- Nothing is delayed any more.
use Rattle.std.proofs.Common.{◌≡◌, ◌≢◌, ◌<◌, [], true, false, IfNone, IfSome, Option, Some, None, arith}
use Rattle.std.proofs.Common.{ap, is_some, length, sym, ◌∙◌}
use Rattle.std.proofs.lemmas.Bool.{false≢true}
use Rattle.mark_stack.proofs.Pushed.{black_gray, black_wake, gray_wake, more_length}
use Rattle.gz_names.specs.declared.numbers.Place.{Place}
use Rattle.mark_stack.specs.Stack.{IsPushed, Piles, no_places, pile_of}
use Rattle.mark_stack.specs.declared.stack.Pile.{Pile}
use Rattle.mark_stack.specs.declared.stack.Pile.TheVariants as pile

-- one fewer is delayed
pub fewer_delayed : (old new : Piles) (p : Pile) (o : Option Place) → IfSome o (λ place. IsPushed new p place old)
    → true ≡ is_some o → length (pile_of new p) < length (pile_of old p)
fewer_delayed old new p None pushed some = absurd (false≢true (sym some))
fewer_delayed old new p (Some place) pushed some =
    (let len = more_length (pile_of new p) (pile_of old p) place pushed.more in omega (arith, len))

-- the other piles are as they were
pub others_delayed : (old new : Piles) (p : Pile) (o : Option Place) → IfSome o (λ place. IsPushed new p place old)
    → IfNone o (new ≡ old) → (other : Pile) → other ≢ p → pile_of new other ≡ pile_of old other
others_delayed old new p None pushed same other ne = ap (λ ps. pile_of ps other) same
others_delayed old new p (Some place) pushed same other ne = sym (pushed.others other ne)

-- what holds where nothing was found
pub none_then : {X P : Type 0} (o : Option X) → IfNone o P → false ≡ is_some o → P
none_then None p none = p
none_then (Some x) p none = absurd (false≢true none)

-- what holds where nothing was found, in part
pub if_none : {X P Q : Type 0} (o : Option X) → IfNone o P → (P → Q) → IfNone o Q
if_none None p f = f p
if_none (Some x) p f = tt

-- one pile after another is forgotten
pub all-forgotten : (a b c : Piles) → pile_of a pile.Black ≡ [] → pile_of b pile.Gray ≡ [] → pile_of c pile.Wake ≡ []
    → ((other : Pile) → other ≢ pile.Gray → pile_of b other ≡ pile_of a other)
    → ((other : Pile) → other ≢ pile.Wake → pile_of c other ≡ pile_of b other) → c ≡ no_places
all-forgotten a b c black gray wake keeps then = (λ i. record {
  black = (then pile.Black black_wake ∙ (keeps pile.Black black_gray ∙ black)) i;
  gray = (then pile.Gray gray_wake ∙ gray) i;
  wake = wake i;
})
