-- The rows of each wing's table, and what a search of a list finds.
use Rattle.std.proofs.Common.{arith, ◌≡◌, refl, ℕ, List, [], ◌∷◌, nat_eq}
use Rattle.std.proofs.lemmas.Bool.Decides.{nat_tests}
use Rattle.std.specs.List.{list_any}
use Rattle.laws.specs.Runs.{elem}
use Rattle.rest.specs.Table.{rest_table, guest_table}
use Rattle.rest.specs.Wings.{table_of}
use Rattle.rest_table.specs.Wing.{number_of}
use Rattle.rest_table.specs.declared.wings.Wing.{Wing}
use Rattle.rest_table.specs.declared.wings.Wing.TheVariants.{Hall, Guest}

pub hall_rows : (wing : Wing) → wing ≡ Hall → table_of (number_of wing) ≡ rest_table
unfolding table_of
hall_rows wing e = rw e refl

pub guest_rows : (wing : Wing) → wing ≡ Guest → table_of (number_of wing) ≡ guest_table
unfolding table_of
guest_rows wing e = rw e refl

nat_eq_sym : (x y : ℕ) → nat_eq x y ≡ nat_eq y x
nat_eq_sym x y = grind (arith, nat_tests)

pub any_elem : (x : ℕ) (l : List ℕ) → list_any (λ y. nat_eq y x) l ≡ elem x l
any_elem x [] = refl
any_elem x (y ∷ l) = rw (any_elem x l, nat_eq_sym y x) refl
