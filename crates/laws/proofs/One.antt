-- A contract that is an equation leaves one result: any two results that meet it are equal.
use mathlib.Core.Path.{◌≡◌, ◌∙◌, sym}

pub one_result : {A : Type 0} (answer r s : A) → r ≡ answer → s ≡ answer → r ≡ s
one_result answer r s p q = p ∙ sym q
