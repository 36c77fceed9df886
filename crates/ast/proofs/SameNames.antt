-- Names that are the same.
use Rattle.std.proofs.Common.{◌≡◌, ℕ, true, List, sym}
use Rattle.std.proofs.lemmas.Cmp.{nat_list_eq_equiv}
use Rattle.std.specs.Cmp.Lexicographic.{same_text}
use Rattle.ast.specs.Store.{same_name}

pub same_itself : (x : List ℕ) → same_name x x ≡ true
same_itself x = nat_list_eq_equiv.refl x

pub same_is : (x y : List ℕ) → same_name x y ≡ true → x ≡ y
same_is x y h = same_text x y (sym h)
