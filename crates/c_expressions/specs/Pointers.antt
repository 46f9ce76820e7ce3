-- What may stand behind a star is an operand too.
use Rattle.c_tree.specs.declared.tree.Call.{Call}
use Rattle.c_tree.specs.declared.tree.Call.TheOpen as o
use Rattle.c_tree.specs.declared.tree.Place.TheVariants as place
use Rattle.c_tree.specs.declared.tree.Pointer.{Pointer, Pointer-F, out-Pointer}
use Rattle.c_tree.specs.declared.tree.Unary.{Unary}
use Rattle.c_tree.specs.declared.tree.Unary.TheVariants as unary
use Rattle.c_tree.specs.declared.tree.Added.{Added}
use Rattle.c_tree.specs.declared.tree.Compared.{Compared}
use Rattle.c_tree.specs.declared.tree.Expr.{Expr}
use Rattle.c_tree.specs.declared.tree.Place.{Place}
use Rattle.c_tree.specs.declared.tree.Sum.{Sum}

abbrev pub of_layer : Pointer-F Call Place Pointer Unary Added Compared Expr Sum → Unary
of_layer (o.Pointer::Name name) = unary.Place (place.Name name)
of_layer (o.Pointer::Star tok pointer) = unary.Place (place.Star tok pointer)
of_layer (o.Pointer::Call call) = unary.Call call
of_layer (o.Pointer::Paren e) = unary.Paren e

abbrev pub unary_of : Pointer → Unary
unary_of p = of_layer (out-Pointer p)
