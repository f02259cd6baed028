-- What holds of a call's result that is returned as it is.
use Rattle.std.proofs.Common.{◌≡◌, Bool, true, false, not, refl, Result, Ok, Err, Option, Some, None, IfOk, subst}
use Rattle.std.specs.Prelude.{IfNone, IfSome, MatchOption, OnErr, OnOk, is_err, is_some}

-- two clauses together
pub both_ok : {X E : Type 0} (r : Result X E) (P Q R : X → Type 0) → ((x : X) → P x → Q x → R x) → IfOk r P → IfOk r Q
    → IfOk r R
both_ok (Ok x) P Q R f p q = f x p q
both_ok (Err e) P Q R f p q = tt

-- where there is no fault, more is known
pub no_fault : {K E A B : Type 0} (r : Result (Option K) E) → (A → B) → IfOk r (λ fault. IfNone fault A)
    → IfOk r (λ fault. IfNone fault B)
no_fault (Ok None) f p = f p
no_fault (Ok (Some k)) f p = tt
no_fault (Err e) f p = tt

-- where there is a fault, more is known
pub a_fault : {K E A B : Type 0} (r : Result (Option K) E) → (A → B) → IfOk r (λ fault. IfSome fault (λ k. A))
    → IfOk r (λ fault. IfSome fault (λ k. B))
a_fault (Ok None) f p = tt
a_fault (Ok (Some k)) f p = f p
a_fault (Err e) f p = tt

-- a clause that holds whatever the result
pub on_ok_known : {X E P : Type 0} (r : Result X E) → P → OnOk r P
on_ok_known (Ok x) p = p
on_ok_known (Err e) p = tt

pub none_known : {K X P : Type 0} (r : Result (Option K) X) → P → IfOk r (λ fault. IfNone fault P)
none_known (Ok None) p = p
none_known (Ok (Some k)) p = tt
none_known (Err e) p = tt

pub fault_known : {K X P : Type 0} (r : Result (Option K) X) → P → IfOk r (λ fault. IfSome fault (λ k. P))
fault_known (Ok None) p = tt
fault_known (Ok (Some k)) p = p
fault_known (Err e) p = tt

-- two clauses together, where there is no fault
pub none_both : {K X A B C : Type 0} (r : Result (Option K) X) → (A → B → C) → IfOk r (λ fault. IfNone fault A)
    → IfOk r (λ fault. IfNone fault B) → IfOk r (λ fault. IfNone fault C)
none_both (Ok None) f a b = f a b
none_both (Ok (Some k)) f a b = tt
none_both (Err e) f a b = tt

-- an option that is there, or is not
pub none_there : {X P : Type 0} (o : Option X) → is_some o ≡ false → IfNone o P → P
none_there None e p = p
none_there (Some x) e p = absurd (cc e)

pub some_there : {X : Type 0} {P : X → Type 0} (o : Option X) → is_some o ≡ true → IfSome o P → (x : X) × P x
some_there None e p = absurd (cc e)
some_there (Some x) e p = (x, p)

-- where there is no such value, it is not there
pub not_there : {X : Type 0} {P : X → Type 0} (o : Option X) (b : Bool) → is_some o ≡ not b → IfSome o P
    → ((x : X) → P x → ⊥) → b ≡ true
not_there o true e p none = refl
not_there o false e p none = let x = some_there o e p in absurd (none x.0 x.1)

-- what is known where an option is there, and where it is not
pub some_is : {X P : Type 0} (o : Option X) (x : X) → o ≡ Some x → IfSome o (λ y. P) → P
some_is None x e p = absurd (cc e)
some_is (Some y) x e p = p

pub match_some : {X : Type 0} (o : Option X) (x : X) (A : Type 0) (P : X → Type 0) → o ≡ Some x → MatchOption o A P
    → P x
match_some None x A P e p = absurd (cc e)
match_some (Some y) x A P e p = let same : y ≡ x = cc e in subst P same p

pub match_none : {X : Type 0} (o : Option X) (A : Type 0) (P : X → Type 0) → o ≡ None → MatchOption o A P → A
match_none None A P e p = p
match_none (Some x) A P e p = absurd (cc e)

pub none_is : {X P : Type 0} (o : Option X) → o ≡ None → IfNone o P → P
none_is None e p = p
none_is (Some x) e p = absurd (cc e)

-- what is known of a result that is an error, and of one that is none
pub err_is : {X E P : Type 0} (r : Result X E) → is_err r ≡ true → OnErr r P → P
err_is (Ok x) e p = absurd (cc e)
err_is (Err f) e p = p

pub ok_is : {X E P : Type 0} (r : Result X E) → is_err r ≡ false → OnOk r P → P
ok_is (Ok x) e p = p
ok_is (Err f) e p = absurd (cc e)
