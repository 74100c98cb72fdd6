-- What the code's answer says of the sheet's, where the code answers another value than the sheet does.
use Rattle.std.specs.Prelude.{◌≡◌, refl, ℕ, Result, Ok, Err, IsErrAnd}
use Rattle.std.proofs.Common.{sym, ap, ◌∙◌}
use Rattle.std.proofs.lemmas.Result.{err_from_is_err_and}
use Rattle.format.specs.Answer.{Answer, ok, refuse, number, second}
use Rattle.format.specs.Refusal.{refused, answered}
use Rattle.format.specs.declared.refusal.Refusal.{Refusal}

-- the same answer, with the value made by f: a schema's node count, a row's words
abbrev pub mapped : {A B : Type 0} → (A → B) → Answer A → Answer B
mapped f (ok a) = ok (f a)
mapped f (refuse r i) = refuse r i

pub mapped-number : {A B : Type 0} (f : A → B) (m : Answer A) → number (mapped f m) ≡ number m
unfolding number
mapped-number f (ok a) = refl
mapped-number f (refuse r i) = refl

pub mapped-second : {A : Type 0} (f : A → ℕ) (m : Answer A) → second (λ n. n) (mapped f m) ≡ second f m
unfolding second
mapped-second f (ok a) = refl
mapped-second f (refuse r i) = refl

-- what a `?` hands on is the refusal that it met
pub met : {A : Type 0} {r : Result A Refusal} {n : Refusal} → IsErrAnd r (λ m. m ≡ n) → r ≡ Err n
met {r = r} h = let (m, q, e) = err_from_is_err_and r h in q ∙ ap Err e

-- where the code accepts, and where it refuses
pub answers-ok : {A B P : Type 0} {r : Result B Refusal} {b : B} (f : A → B) (m : Answer A) → answered r ≡ mapped f m → r ≡ Ok b → ((a : A) → m ≡ ok a → f a ≡ b → P) → P
answers-ok {r = r} {b = b} f (ok a) h q k = let e : ok b ≡ ok (f a) = sym (ap answered q) ∙ h in k a refl (cc)
answers-ok {r = r} {b = b} f (refuse x y) h q k = let e : ok b ≡ refuse x y = sym (ap answered q) ∙ h in absurd (cc)

pub answers-err : {A B : Type 0} {r : Result B Refusal} {e : Refusal} (f : A → B) (m : Answer A) → answered r ≡ mapped f m → r ≡ Err e → m ≡ refused e
answers-err {B = B} {r = r} {e = e} f (ok a) h q = let z : refused {A = B} e ≡ ok (f a) = sym (ap answered q) ∙ h in absurd (cc)
answers-err {B = B} {r = r} {e = e} f (refuse x y) h q = let z : refused {A = B} e ≡ refuse x y = sym (ap answered q) ∙ h in cc

-- the same of an answer that is the sheet's own
module _ {A : Type 0} {r : Result A Refusal} {m : Answer A} (h : answered r ≡ m) where
  pub passed : {a : A} → r ≡ Ok a → m ≡ ok a
  passed q = sym h ∙ ap answered q

  pub stopped : {e : Refusal} → r ≡ Err e → m ≡ refused e
  stopped q = sym h ∙ ap answered q
