-- What the code's values stand for.
use Rattle.std.specs.Prelude.{map, Option, Some, None, ⊤}
use Rattle.subscripts.specs.Forms as spec
use Rattle.subscripts.specs.declared.form.Affine.{Affine}
use Rattle.subscripts.specs.declared.form.Affine.TheVariants as affines
use Rattle.subscripts.specs.declared.form.Form.{Form}
use Rattle.subscripts.specs.SharesView.{share}

abbrev pub form : Form → spec.Form
form f =
    record { constant = f.constant; coefficient = f.coefficient; shares = map share f.shares.items }

-- the form, if there is one
abbrev pub form_in : Affine → Option spec.Form
form_in (affines.Form f) = Some (form f)
form_in affines.NotAffine = None

-- What is claimed of the form, if there is one.
abbrev pub HasForm : Affine → (spec.Form → Type 0) → Type 0
HasForm (affines.Form f) claim = claim (form f)
HasForm affines.NotAffine claim = ⊤
