-- What the walks of trees keep.
use Rattle.std.proofs.Common.{◌≡◌, inl, refl, sym, ap, ◌∙◌, subst, ℕ, ◌<◌, ◌==◌, true, false, cond, List, [], ◌∷◌, length, Option, Some, None, arith}
use Rattle.std.specs.Prelude.{All, map}
use Rattle.std.proofs.lemmas.List.Elements.{All-head, All-tail}
use Rattle.faults.specs.declared.kinds.InputKind.TheVariants as input
use Rattle.c_tree.specs.declared.tree.Tok.{Tok}
use Rattle.c_tree.specs.declared.tree.Name.{Name}
use Rattle.c_tree.specs.declared.tree.Call.{Call, Call-F, roll-Call, map-Call, ind-Call}
use Rattle.c_tree.specs.declared.tree.Call.TheOpen as o
use Rattle.c_tree.specs.declared.tree.Call.TheVariants as call
use Rattle.c_tree.specs.declared.tree.Place.{Place, Place-F, roll-Place, map-Place, ind-Place}
use Rattle.c_tree.specs.declared.tree.Place.TheVariants as place
use Rattle.c_tree.specs.declared.tree.Pointer.{Pointer, Pointer-F, roll-Pointer, map-Pointer}
use Rattle.c_tree.specs.declared.tree.Pointer.TheVariants as pointer
use Rattle.c_tree.specs.declared.tree.Unary.{Unary, Unary-F, roll-Unary, map-Unary}
use Rattle.c_tree.specs.declared.tree.Unary.TheVariants as unary
use Rattle.c_tree.specs.declared.tree.Added.{Added, Added-F, roll-Added, map-Added}
use Rattle.c_tree.specs.declared.tree.Compared.{Compared, Compared-F, roll-Compared, map-Compared}
use Rattle.c_tree.specs.declared.tree.Expr.{Expr, Expr-F, roll-Expr, map-Expr, ind-Expr}
use Rattle.c_tree.specs.declared.tree.Sum.{Sum, Sum-F, roll-Sum, map-Sum}
use Rattle.emit_list.specs.declared.vertex.VertexForm.TheVariants as form
use Rattle.emit_list.specs.declared.edge.EmitLabel.TheVariants as label
use Rattle.visible_names.specs.Names.{Bound}
use Rattle.graph_emit.specs.declared.emitter.Value.{Value}
use Rattle.graph_emit.specs.declared.fault.EmitKind.{EmitKind}
use Rattle.graph_emit.specs.State.{Made, Walk, done, ◌⟫◌, refuse, fresh, join, pointed_to, addressed, plain, flow, variable, Target, Setting}
use Rattle.graph_emit.specs.Walk.{CallWalk, OperandWalk, arg_flows, args_flow, given, goes_to, given_or, value_of, operate, operate_all, call_walk, place_walk, pointer_walk, unary_walk, added_walk, compared_walk, expr_walk, sum_walk}
use Rattle.graph_emit.proofs.Forms.{has_within}
use Rattle.graph_emit.proofs.Keeps.{IsVariable, Rules, CallGoes, variables_grown, callable_grown, Keeps, keeps_done, keeps_refused, keeps_then, keeps_weaker, Nothing, Inside, IsOf, IsPlace, place_inside, fresh_keeps, join_keeps, pointed_keeps, addressed_keeps, flow_keeps, variable_keeps}
use Rattle.graph_emit.proofs.Layers.{call_function, call_malloc, place_name, place_star, pointer_name, pointer_star, pointer_call, pointer_paren, unary_place, unary_address, unary_call, unary_number, unary_null, unary_paren, added_is, compared_is, sum_is, right_walk, expr_is}

-- a value whose vertex is there
abbrev pub HasVertex : List Made → Value → Type 0
HasVertex ms value = value.vertex < length ms

-- what a call gives, if it gives anything, is there
abbrev pub HasGiven : List Made → Option ℕ → Type 0
HasGiven ms gives = (t : ℕ) → gives ≡ Some t → t < length ms

-- ---- walks that keep the rules wherever they begin
module _ (rules : Rules) where
  abbrev pub Always : {A : Type 0} → (List Made → A → Type 0) → Walk A → Type 0
  Always Q w = (base : List Made) → Keeps rules base Q w

  plain_keeps : (base : List Made) (Q : List Made → ℕ → Type 0) (w : Walk ℕ) → ((ms : List Made) (v : ℕ) → Q ms v → v < length ms) → Keeps rules base Q w → Keeps rules base HasVertex (w ⟫ λ t. done (plain t))
  plain_keeps base Q w f k = keeps_then rules base Q HasVertex w (λ t. done (plain t)) k
      (λ ms t g q. keeps_done rules ms HasVertex (plain t) (λ ns h. let at : t < length ms = f ms t q in omega (arith, h.longer)))

  -- ---- operands
  pub operate_keeps : (right : OperandWalk) → Always HasVertex right.walk → Always HasVertex (operate right)
  operate_keeps right k base = keeps_then rules base HasVertex HasVertex right.walk (λ _. fresh right.tok form.Op [] ⟫ λ t. done (plain t)) (k base)
      (λ ms v g q. plain_keeps ms (IsOf form.Op) (fresh right.tok form.Op []) (λ ns t h. has_within ns t form.Op h) (fresh_keeps rules ms right.tok form.Op [] refl rules.empty))

  abbrev pub AllOperands : List OperandWalk → Type 0
  AllOperands [] = Unit {0}
  AllOperands (x ∷ xs) = Always HasVertex x.walk × AllOperands xs

  pub operands_keep : (xs : List OperandWalk) (value : Value) (base : List Made) → AllOperands xs → value.vertex < length base → Keeps rules base HasVertex (operate_all value xs)
  operands_keep [] value base all at = keeps_done rules base HasVertex value (λ ms g. omega (arith, g.longer))
  operands_keep (x ∷ xs) value base all at = keeps_then rules base HasVertex HasVertex (operate x) (λ both. operate_all both xs) (operate_keeps x all.0 base)
      (λ ms v g q. operands_keep xs v ms all.1 q)

  -- ---- calls
  abbrev pub AllWalks : List (Walk Value) → Type 0
  AllWalks [] = Unit {0}
  AllWalks (x ∷ xs) = Always HasVertex x × AllWalks xs

  arg_keeps : (k : EmitKind) (arg : Walk Value) (t : ℕ) (base : List Made) → Always HasVertex arg → t < length base → Keeps rules base Nothing (arg_flows k arg t)
  arg_keeps k arg t base keeps at = keeps_then rules base HasVertex Nothing arg (λ value. flow k value t) (keeps base)
      (λ ms v g q. flow_keeps rules ms k v t q (omega (arith, g.longer)))

  args_keep : (k : EmitKind) (args : List (Walk Value)) (params : List Bound) (base : List Made) → AllWalks args → All (IsVariable base) params → Keeps rules base Nothing (args_flow k args params)
  args_keep k [] params base all vars = keeps_done rules base Nothing tt (λ ms g. tt)
  args_keep k (arg ∷ args) [] base all vars = keeps_done rules base Nothing tt (λ ms g. tt)
  args_keep k (arg ∷ args) (p ∷ ps) base all vars =
      let at : p.vertex < length base = has_within base p.vertex form.Variable (All-head (IsVariable base) p ps vars) in
      keeps_then rules base Nothing Nothing (arg_flows k arg p.vertex) (λ _. args_flow k args ps) (arg_keeps k arg p.vertex base all.0 at)
      (λ ms u g q. args_keep k args ps ms all.1 (variables_grown base ms ps g (All-tail (IsVariable base) p ps vars)))

  given_keeps : (name : Name) (gives : Option ℕ) (base : List Made) → rules.Allowed name.bytes → HasGiven base gives → Keeps rules base HasGiven (given name gives)
  given_keeps name None base allowed has = keeps_done rules base HasGiven None (λ ms g t e. absurd (cc))
  given_keeps name (Some r) base allowed has =
      let at : r < length base = has r refl in
      keeps_then rules base (IsOf form.Call) HasGiven (fresh name.tok form.Call name.bytes) (λ t. join r label.A t ⟫ λ _. done (Some t)) (fresh_keeps rules base name.tok form.Call name.bytes refl allowed)
      (λ ms t g q.
      let new : t < length ms = has_within ms t form.Call q in
      keeps_then rules ms Nothing HasGiven (join r label.A t) (λ _. done (Some t)) (join_keeps rules ms r label.A t (omega (arith, g.longer)) new)
      (λ ns u h v. keeps_done rules ns HasGiven (Some t) (λ os i x e. let same : t ≡ x = cc in omega (arith, h.longer, i.longer))))

  goes_to_keeps : (set : Setting) (name : Name) (args : List (Walk Value)) (target : Target) (base : List Made) → AllWalks args → CallGoes rules name.bytes base target → Keeps rules base HasGiven (goes_to set name args target)
  goes_to_keeps set name args target base all c =
      let w = args_flow set.kind args target.params ⟫ λ _. given name target.gives in
      elim (length args == length target.params) as (λ b. Keeps rules base HasGiven (cond b w (refuse name.tok input.WrongArguments))) [
        | true ↦ keeps_then rules base Nothing HasGiven (args_flow set.kind args target.params) (λ _. given name target.gives) (args_keep set.kind args target.params base all c.callable.params)
            (λ ms u g q. given_keeps name target.gives ms c.allowed (callable_grown base ms target g c.callable).gives)
        | false ↦ keeps_refused rules base HasGiven name.tok input.WrongArguments
      ]

  given_or_keeps : (tok : Tok) (gives : Option ℕ) (base : List Made) → HasGiven base gives → Keeps rules base Inside (given_or tok gives)
  given_or_keeps tok (Some t) base has = let at : t < length base = has t refl in keeps_done rules base Inside t (λ ms g. omega (arith, g.longer))
  given_or_keeps tok None base has = keeps_refused rules base Inside tok input.NoValue

  pub value_keeps : (c : CallWalk) → Always HasGiven c.walk → Always Inside (value_of c)
  value_keeps c k base = keeps_then rules base HasGiven Inside c.walk (given_or c.tok) (k base) (λ ms gives g q. given_or_keeps c.tok gives ms q)

-- ---- trees, where calls go to functions that can be called
module _ (rules : Rules) (set : Setting) (goes : (name : Name) → Always rules (CallGoes rules name.bytes) (set.goes name)) where
  abbrev CallFact : Call → Type 0
  CallFact t = Always rules HasGiven (call_walk set t).walk

  abbrev PlaceFact : Place → Type 0
  PlaceFact t = Always rules IsPlace (place_walk set t)

  abbrev PointerFact : Pointer → Type 0
  PointerFact t = Always rules Inside (pointer_walk set t)

  abbrev UnaryFact : Unary → Type 0
  UnaryFact t = Always rules HasVertex (unary_walk set t)

  abbrev AddedFact : Added → Type 0
  AddedFact t = Always rules HasVertex (added_walk set t).walk

  abbrev ComparedFact : Compared → Type 0
  ComparedFact t = Always rules HasVertex (compared_walk set t).walk

  abbrev ExprFact : Expr → Type 0
  ExprFact t = Always rules HasVertex (expr_walk set t)

  abbrev SumFact : Sum → Type 0
  SumFact t = Always rules HasVertex (sum_walk set t)

  abbrev CallWith : Type 0
  CallWith = (t : Call) × CallFact t

  abbrev PlaceWith : Type 0
  PlaceWith = (t : Place) × PlaceFact t

  abbrev PointerWith : Type 0
  PointerWith = (t : Pointer) × PointerFact t

  abbrev UnaryWith : Type 0
  UnaryWith = (t : Unary) × UnaryFact t

  abbrev AddedWith : Type 0
  AddedWith = (t : Added) × AddedFact t

  abbrev ComparedWith : Type 0
  ComparedWith = (t : Compared) × ComparedFact t

  abbrev ExprWith : Type 0
  ExprWith = (t : Expr) × ExprFact t

  abbrev SumWith : Type 0
  SumWith = (t : Sum) × SumFact t

  exprs_keep : (args : List ExprWith) → AllWalks rules (map (expr_walk set) (map (λ e. e.0) args))
  exprs_keep [] = tt
  exprs_keep (e ∷ es) = (e.1, exprs_keep es)

  addeds_keep : (rest : List AddedWith) → AllOperands rules (map (added_walk set) (map (λ e. e.0) rest))
  addeds_keep [] = tt
  addeds_keep (a ∷ more) = (a.1, addeds_keep more)

  call_step : (y : Call-F CallWith PlaceWith PointerWith UnaryWith AddedWith ComparedWith ExprWith SumWith) → CallFact (roll-Call (map-Call CallWith PlaceWith PointerWith UnaryWith AddedWith ComparedWith ExprWith SumWith Call Place Pointer Unary Added Compared Expr Sum (λ e. e.0) (λ e. e.0) (λ e. e.0) (λ e. e.0) (λ e. e.0) (λ e. e.0) (λ e. e.0) (λ e. e.0) y))
  call_step (o.Function name args) base =
      let es = map (λ (e : ExprWith). e.0) args in
      subst (λ c. Keeps rules base HasGiven c.walk) (sym (ap (call_walk set) (call.rolls-Function name es) ∙ call_function set name es))
      (keeps_then rules base (CallGoes rules name.bytes) HasGiven (set.goes name) (goes_to set name (map (expr_walk set) es)) (goes name base) (λ ms t g q. goes_to_keeps rules set name (map (expr_walk set) es) t ms (exprs_keep args) q))
  call_step (o.Malloc tok size) base =
      subst (λ c. Keeps rules base HasGiven c.walk) (sym (ap (call_walk set) (call.rolls-Malloc tok size.0) ∙ call_malloc set tok size.0))
      (keeps_then rules base HasVertex HasGiven (expr_walk set size.0) (λ _. fresh tok form.Malloc [] ⟫ λ t. done (Some t)) (size.1 base) (λ ms v g q.
      keeps_then rules ms (IsOf form.Malloc) HasGiven (fresh tok form.Malloc []) (λ t. done (Some t)) (fresh_keeps rules ms tok form.Malloc [] refl rules.empty) (λ ns t h is.
      let at : t < length ns = has_within ns t form.Malloc is in
      keeps_done rules ns HasGiven (Some t) (λ os i x e. let same : t ≡ x = cc in omega (arith, i.longer)))))

  place_step : (y : Place-F CallWith PlaceWith PointerWith UnaryWith AddedWith ComparedWith ExprWith SumWith) → PlaceFact (roll-Place (map-Place CallWith PlaceWith PointerWith UnaryWith AddedWith ComparedWith ExprWith SumWith Call Place Pointer Unary Added Compared Expr Sum (λ e. e.0) (λ e. e.0) (λ e. e.0) (λ e. e.0) (λ e. e.0) (λ e. e.0) (λ e. e.0) (λ e. e.0) y))
  place_step (o.Place::Name name) base =
      subst (Keeps rules base IsPlace) (sym (ap (place_walk set) (place.rolls-Name name) ∙ place_name set name))
      (keeps_weaker rules base (IsOf form.Variable) IsPlace (variable name) (variable_keeps rules base name) (λ ms v g h. inl h))
  place_step (o.Place::Star tok inner) base =
      subst (Keeps rules base IsPlace) (sym (ap (place_walk set) (place.rolls-Star tok inner.0) ∙ place_star set tok inner.0))
      (keeps_then rules base Inside IsPlace (pointer_walk set inner.0) (pointed_to tok) (inner.1 base) (λ ms v g q. pointed_keeps rules ms tok v q))

  pointer_step : (y : Pointer-F CallWith PlaceWith PointerWith UnaryWith AddedWith ComparedWith ExprWith SumWith) → PointerFact (roll-Pointer (map-Pointer CallWith PlaceWith PointerWith UnaryWith AddedWith ComparedWith ExprWith SumWith Call Place Pointer Unary Added Compared Expr Sum (λ e. e.0) (λ e. e.0) (λ e. e.0) (λ e. e.0) (λ e. e.0) (λ e. e.0) (λ e. e.0) (λ e. e.0) y))
  pointer_step (o.Pointer::Name name) base =
      subst (Keeps rules base Inside) (sym (ap (pointer_walk set) (pointer.rolls-Name name) ∙ pointer_name set name))
      (keeps_weaker rules base (IsOf form.Variable) Inside (variable name) (variable_keeps rules base name) (λ ms v g h. has_within ms v form.Variable h))
  pointer_step (o.Pointer::Star tok inner) base =
      subst (Keeps rules base Inside) (sym (ap (pointer_walk set) (pointer.rolls-Star tok inner.0) ∙ pointer_star set tok inner.0))
      (keeps_then rules base Inside Inside (pointer_walk set inner.0) (pointed_to tok) (inner.1 base) (λ ms v g q.
      keeps_weaker rules ms IsPlace Inside (pointed_to tok v) (pointed_keeps rules ms tok v q) (λ ns w h is. place_inside ns w is)))
  pointer_step (o.Pointer::Call c) base =
      subst (Keeps rules base Inside) (sym (ap (pointer_walk set) (pointer.rolls-Call c.0) ∙ pointer_call set c.0))
      (value_keeps rules (call_walk set c.0) c.1 base)
  pointer_step (o.Pointer::Paren e) base =
      subst (Keeps rules base Inside) (sym (ap (pointer_walk set) (pointer.rolls-Paren e.0) ∙ pointer_paren set e.0))
      (keeps_then rules base HasVertex Inside (expr_walk set e.0) (λ value. done value.vertex) (e.1 base) (λ ms v g q. keeps_done rules ms Inside v.vertex (λ ns h. omega (arith, h.longer))))

  unary_step : (y : Unary-F CallWith PlaceWith PointerWith UnaryWith AddedWith ComparedWith ExprWith SumWith) → UnaryFact (roll-Unary (map-Unary CallWith PlaceWith PointerWith UnaryWith AddedWith ComparedWith ExprWith SumWith Call Place Pointer Unary Added Compared Expr Sum (λ e. e.0) (λ e. e.0) (λ e. e.0) (λ e. e.0) (λ e. e.0) (λ e. e.0) (λ e. e.0) (λ e. e.0) y))
  unary_step (o.Place p) base =
      subst (Keeps rules base HasVertex) (sym (ap (unary_walk set) (unary.rolls-Place p.0) ∙ unary_place set p.0))
      (plain_keeps rules base IsPlace (place_walk set p.0) place_inside (p.1 base))
  unary_step (o.Address tok p) base =
      subst (Keeps rules base HasVertex) (sym (ap (unary_walk set) (unary.rolls-Address tok p.0) ∙ unary_address set tok p.0))
      (keeps_then rules base IsPlace HasVertex (place_walk set p.0) (λ v. addressed tok v ⟫ λ t. done (plain t)) (p.1 base) (λ ms v g q.
      plain_keeps rules ms Inside (addressed tok v) (λ ns t h. h) (addressed_keeps rules ms tok v q)))
  unary_step (o.Unary::Call c) base =
      subst (Keeps rules base HasVertex) (sym (ap (unary_walk set) (unary.rolls-Call c.0) ∙ unary_call set c.0))
      (plain_keeps rules base Inside (value_of (call_walk set c.0)) (λ ns t h. h) (value_keeps rules (call_walk set c.0) c.1 base))
  unary_step (o.Number tok) base =
      subst (Keeps rules base HasVertex) (sym (ap (unary_walk set) (unary.rolls-Number tok) ∙ unary_number set tok))
      (plain_keeps rules base (IsOf form.Number) (fresh tok form.Number []) (λ ns t h. has_within ns t form.Number h) (fresh_keeps rules base tok form.Number [] refl rules.empty))
  unary_step (o.Null tok) base =
      subst (Keeps rules base HasVertex) (sym (ap (unary_walk set) (unary.rolls-Null tok) ∙ unary_null set tok))
      (keeps_then rules base (IsOf form.Null) HasVertex (fresh tok form.Null []) (λ t. done (record { vertex = t; is_null = true })) (fresh_keeps rules base tok form.Null [] refl rules.empty) (λ ms t g q.
      let at : t < length ms = has_within ms t form.Null q in
      keeps_done rules ms HasVertex (record { vertex = t; is_null = true }) (λ ns h. omega (arith, h.longer))))
  unary_step (o.Unary::Paren e) base =
      subst (Keeps rules base HasVertex) (sym (ap (unary_walk set) (unary.rolls-Paren e.0) ∙ unary_paren set e.0)) (e.1 base)

  added_step : (y : Added-F CallWith PlaceWith PointerWith UnaryWith AddedWith ComparedWith ExprWith SumWith) → AddedFact (roll-Added (map-Added CallWith PlaceWith PointerWith UnaryWith AddedWith ComparedWith ExprWith SumWith Call Place Pointer Unary Added Compared Expr Sum (λ e. e.0) (λ e. e.0) (λ e. e.0) (λ e. e.0) (λ e. e.0) (λ e. e.0) (λ e. e.0) (λ e. e.0) y))
  added_step y base = subst (λ a. Keeps rules base HasVertex a.walk) (sym (added_is set (roll-Added (map-Added CallWith PlaceWith PointerWith UnaryWith AddedWith ComparedWith ExprWith SumWith Call Place Pointer Unary Added Compared Expr Sum (λ e. e.0) (λ e. e.0) (λ e. e.0) (λ e. e.0) (λ e. e.0) (λ e. e.0) (λ e. e.0) (λ e. e.0) y)))) (y.unary.1 base)

  compared_step : (y : Compared-F CallWith PlaceWith PointerWith UnaryWith AddedWith ComparedWith ExprWith SumWith) → ComparedFact (roll-Compared (map-Compared CallWith PlaceWith PointerWith UnaryWith AddedWith ComparedWith ExprWith SumWith Call Place Pointer Unary Added Compared Expr Sum (λ e. e.0) (λ e. e.0) (λ e. e.0) (λ e. e.0) (λ e. e.0) (λ e. e.0) (λ e. e.0) (λ e. e.0) y))
  compared_step y base = subst (λ a. Keeps rules base HasVertex a.walk) (sym (compared_is set (map-Compared CallWith PlaceWith PointerWith UnaryWith AddedWith ComparedWith ExprWith SumWith Call Place Pointer Unary Added Compared Expr Sum (λ e. e.0) (λ e. e.0) (λ e. e.0) (λ e. e.0) (λ e. e.0) (λ e. e.0) (λ e. e.0) (λ e. e.0) y))) (y.sum.1 base)

  right_keeps : (left : SumWith) (right : Option ComparedWith) → ExprFact (roll-Expr (map-Expr CallWith PlaceWith PointerWith UnaryWith AddedWith ComparedWith ExprWith SumWith Call Place Pointer Unary Added Compared Expr Sum (λ e. e.0) (λ e. e.0) (λ e. e.0) (λ e. e.0) (λ e. e.0) (λ e. e.0) (λ e. e.0) (λ e. e.0) (record { left = left; right = right })))
  right_keeps left None base =
      subst (Keeps rules base HasVertex) (sym (expr_is set left.0 None))
      (keeps_then rules base HasVertex HasVertex (sum_walk set left.0) (right_walk set None) (left.1 base) (λ ms v g q. keeps_done rules ms HasVertex v (λ ns h. omega (arith, h.longer))))
  right_keeps left (Some c) base =
      subst (Keeps rules base HasVertex) (sym (expr_is set left.0 (Some c.0)))
      (keeps_then rules base HasVertex HasVertex (sum_walk set left.0) (right_walk set (Some c.0)) (left.1 base) (λ ms v g q. operate_keeps rules (compared_walk set c.0) c.1 ms))

  expr_step : (y : Expr-F CallWith PlaceWith PointerWith UnaryWith AddedWith ComparedWith ExprWith SumWith) → ExprFact (roll-Expr (map-Expr CallWith PlaceWith PointerWith UnaryWith AddedWith ComparedWith ExprWith SumWith Call Place Pointer Unary Added Compared Expr Sum (λ e. e.0) (λ e. e.0) (λ e. e.0) (λ e. e.0) (λ e. e.0) (λ e. e.0) (λ e. e.0) (λ e. e.0) y))
  expr_step y = right_keeps y.left y.right

  sum_step : (y : Sum-F CallWith PlaceWith PointerWith UnaryWith AddedWith ComparedWith ExprWith SumWith) → SumFact (roll-Sum (map-Sum CallWith PlaceWith PointerWith UnaryWith AddedWith ComparedWith ExprWith SumWith Call Place Pointer Unary Added Compared Expr Sum (λ e. e.0) (λ e. e.0) (λ e. e.0) (λ e. e.0) (λ e. e.0) (λ e. e.0) (λ e. e.0) (λ e. e.0) y))
  sum_step y base =
      subst (Keeps rules base HasVertex) (sym (sum_is set (map-Sum CallWith PlaceWith PointerWith UnaryWith AddedWith ComparedWith ExprWith SumWith Call Place Pointer Unary Added Compared Expr Sum (λ e. e.0) (λ e. e.0) (λ e. e.0) (λ e. e.0) (λ e. e.0) (λ e. e.0) (λ e. e.0) (λ e. e.0) y)))
      (keeps_then rules base HasVertex HasVertex (unary_walk set y.first.0) (λ value. operate_all value (map (added_walk set) (map (λ (e : AddedWith). e.0) y.rest))) (y.first.1 base)
      (λ ms v g q. operands_keep rules (map (added_walk set) (map (λ (e : AddedWith). e.0) y.rest)) v ms (addeds_keep y.rest) q))

  pub call_keeps : (t : Call) → CallFact t
  call_keeps = ind-Call CallFact PlaceFact PointerFact UnaryFact AddedFact ComparedFact ExprFact SumFact (λ x y is. subst (λ x. CallFact (roll-Call x)) is (call_step y)) (λ x y is. subst (λ x. PlaceFact (roll-Place x)) is (place_step y)) (λ x y is. subst (λ x. PointerFact (roll-Pointer x)) is (pointer_step y)) (λ x y is. subst (λ x. UnaryFact (roll-Unary x)) is (unary_step y)) (λ x y is. subst (λ x. AddedFact (roll-Added x)) is (added_step y)) (λ x y is. subst (λ x. ComparedFact (roll-Compared x)) is (compared_step y)) (λ x y is. subst (λ x. ExprFact (roll-Expr x)) is (expr_step y)) (λ x y is. subst (λ x. SumFact (roll-Sum x)) is (sum_step y))

  pub place_keeps : (t : Place) → PlaceFact t
  place_keeps = ind-Place CallFact PlaceFact PointerFact UnaryFact AddedFact ComparedFact ExprFact SumFact (λ x y is. subst (λ x. CallFact (roll-Call x)) is (call_step y)) (λ x y is. subst (λ x. PlaceFact (roll-Place x)) is (place_step y)) (λ x y is. subst (λ x. PointerFact (roll-Pointer x)) is (pointer_step y)) (λ x y is. subst (λ x. UnaryFact (roll-Unary x)) is (unary_step y)) (λ x y is. subst (λ x. AddedFact (roll-Added x)) is (added_step y)) (λ x y is. subst (λ x. ComparedFact (roll-Compared x)) is (compared_step y)) (λ x y is. subst (λ x. ExprFact (roll-Expr x)) is (expr_step y)) (λ x y is. subst (λ x. SumFact (roll-Sum x)) is (sum_step y))

  pub expr_keeps : (t : Expr) → ExprFact t
  expr_keeps = ind-Expr CallFact PlaceFact PointerFact UnaryFact AddedFact ComparedFact ExprFact SumFact (λ x y is. subst (λ x. CallFact (roll-Call x)) is (call_step y)) (λ x y is. subst (λ x. PlaceFact (roll-Place x)) is (place_step y)) (λ x y is. subst (λ x. PointerFact (roll-Pointer x)) is (pointer_step y)) (λ x y is. subst (λ x. UnaryFact (roll-Unary x)) is (unary_step y)) (λ x y is. subst (λ x. AddedFact (roll-Added x)) is (added_step y)) (λ x y is. subst (λ x. ComparedFact (roll-Compared x)) is (compared_step y)) (λ x y is. subst (λ x. ExprFact (roll-Expr x)) is (expr_step y)) (λ x y is. subst (λ x. SumFact (roll-Sum x)) is (sum_step y))
