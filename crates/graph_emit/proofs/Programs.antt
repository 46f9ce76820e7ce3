-- What the walks of statements and of a whole program keep.
use Rattle.std.proofs.Common.{◌≡◌, ◌⊎◌, inl, inr, refl, sym, ap, ◌∙◌, subst, ℕ, ◌<◌, Bool, true, false, cond, List, [], ◌∷◌, ◌++◌, length, Option, Some, None, Ok, arith}
use Rattle.std.specs.Prelude.{All, Contains, map, reverse, find, is_some, slice_get}
use Rattle.std.specs.Option.{option_map}
use Rattle.std.specs.Str.{bytes_eq}
use Rattle.std.proofs.lemmas.List.{length-map}
use Rattle.std.proofs.lemmas.Grind.{reverse_onto}
use Rattle.std.proofs.lemmas.Option.{slice_get-map}
use Rattle.std.proofs.lemmas.List.Elements.{All-nil, All-cons, All-head, All-tail, All-push, All-map, All-weaker, All-contains_itself}
use Rattle.std.proofs.lemmas.Slice.Eq.{bytes_eq-Decides}
use Rattle.faults.specs.declared.kinds.InputKind.TheVariants as input
use Rattle.c_tree.specs.declared.tree.Tok.{Tok}
use Rattle.c_tree.specs.declared.tree.Name.{Name}
use Rattle.c_tree.specs.declared.tree.Expr.{Expr}
use Rattle.c_tree.specs.declared.tree.Var.{Var}
use Rattle.c_tree.specs.declared.tree.Stmt.{Stmt, Stmt-F, roll-Stmt, map-Stmt, ind-Stmt}
use Rattle.c_tree.specs.declared.tree.Stmt.TheOpen as s
use Rattle.c_tree.specs.declared.tree.Stmt.TheVariants as stmt
use Rattle.c_tree.specs.declared.tree.Param.{Param}
use Rattle.c_tree.specs.declared.tree.Function.{Function}
use Rattle.c_tree.specs.declared.tree.Item.{Item}
use Rattle.c_tree.specs.declared.tree.Item.TheVariants as item
use Rattle.c_tree.specs.declared.tree.Program.{Program}
use Rattle.emit_list.specs.declared.vertex.VertexForm.{VertexForm}
use Rattle.emit_list.specs.declared.vertex.VertexForm.TheVariants as form
use Rattle.emit_list.specs.declared.vertex.Vertex.{Vertex}
use Rattle.emit_list.specs.Vertices.{Listed, HasForm, IsEdgeBelow, IsGraphOfProgram}
use Rattle.visible_names.specs.Names.{Bound, bound_to}
use Rattle.graph_emit.specs.declared.fault.EmitKind.{EmitKind}
use Rattle.graph_emit.specs.State.{Made, State, done, ◌⟫◌, refuse, fresh, flow, declare, Target, Setting}
use Rattle.graph_emit.specs.Walk.{expr_walk, place_walk, call_walk, initial, var_walk, vars_walk, in_order, returned, stmt_walk, body_walk}
use Rattle.graph_emit.specs.Program.{Known, known_as, param_made, params_made, gives_nothing, return_made, target_made, function_made, item_made, functions_made, known_or, setting, item_walk, items_walk, program_walk, blank, graph_of, shown, listed, IsProgramGraph}
use Rattle.graph_emit.specs.Names.{var_names, stmt_names, block_names, param_names, function_names, item_names, declared_names, IsNamedBy}
use Rattle.graph_emit.proofs.Forms.{Has, has_within, Grows, grows_none, grows_then}
use Rattle.graph_emit.proofs.Kept.{Kept, kept_none}
use Rattle.graph_emit.proofs.Keeps.{IsVariable, Callable, IsCallable, CallGoes, Rules, IsNamed, Good, variables_grown, callable_grown, callables_grown, Leaves, Keeps, leaves_as, keeps_done, keeps_refused, halves, keeps_then, Nothing, IsOf, IsPlace, place_inside, fresh_keeps, flow_keeps, declare_keeps, scoped_keeps}
use Rattle.graph_emit.proofs.Layers.{stmt_declared, stmt_assign, stmt_call, stmt_block, else_walk, stmt_empty, stmt_if, stmt_while, stmt_return}
use Rattle.graph_emit.proofs.Names.{all_left, all_right, all_layer}
use Rattle.graph_emit.proofs.Trees.{HasVertex, HasGiven, Always, call_keeps, place_keeps, expr_keeps}

all_reverse : {X : Type 0} (P : X → Type 0) (xs : List X) → All P xs → All P (reverse xs)
all_reverse P [] a = a
all_reverse P (x ∷ xs) a = subst (All P) (sym (reverse_onto xs x [])) (All-push P (reverse xs) x (all_reverse P xs (All-tail P x xs a)) (All-head P x xs a))

-- ---- statements, where calls go to functions that can be called
module _ (rules : Rules) (set : Setting) (goes : (name : Name) → Always rules (CallGoes rules name.bytes) (set.goes name)) where
  initial_keeps : (value : Option Expr) (t : ℕ) (base : List Made) → t < length base → Keeps rules base Nothing (initial set value t)
  initial_keeps None t base at = keeps_done rules base Nothing tt (λ ms g. tt)
  initial_keeps (Some e) t base at = keeps_then rules base HasVertex Nothing (expr_walk set e) (λ value. flow set.kind value t) (expr_keeps rules set goes e base)
      (λ ms v g q. flow_keeps rules ms set.kind v t q (omega (arith, g.longer)))

  pub vars_keep : (vars : List Var) → All rules.Allowed (var_names vars) → Always rules Nothing (vars_walk set vars)
  vars_keep [] all base = keeps_done rules base Nothing tt (λ ms g. tt)
  vars_keep (v ∷ vs) all base = keeps_then rules base Nothing Nothing (var_walk set v) (λ _. vars_walk set vs)
      (keeps_then rules base (IsOf form.Variable) Nothing (declare v.name) (initial set v.value) (declare_keeps rules base v.name (All-head rules.Allowed v.name.bytes (var_names vs) all)) (λ ms t g q. initial_keeps v.value t ms (has_within ms t form.Variable q)))
      (λ ms u g q. vars_keep vs (All-tail rules.Allowed v.name.bytes (var_names vs) all) ms)

  module _ (gives : Option ℕ) where
    abbrev StmtFact : Stmt → Type 0
    StmtFact t = All rules.Allowed (stmt_names t) → (base : List Made) → HasGiven base gives → Keeps rules base Nothing (stmt_walk set gives t)

    abbrev StmtWith : Type 0
    StmtWith = (t : Stmt) × StmtFact t

    given_later : (base ms : List Made) → Grows base ms → HasGiven base gives → HasGiven ms gives
    given_later base ms g has t e = let at : t < length base = has t e in omega (arith, g.longer)

    stmts_in_order : (ws : List StmtWith) → All rules.Allowed (block_names (map (λ e. e.0) ws)) → (base : List Made) → HasGiven base gives → Keeps rules base Nothing (in_order (map (stmt_walk set gives) (map (λ e. e.0) ws)))
    stmts_in_order [] all base has = keeps_done rules base Nothing tt (λ ms g. tt)
    stmts_in_order (w ∷ ws) all base has = keeps_then rules base Nothing Nothing (stmt_walk set gives w.0) (λ _. in_order (map (stmt_walk set gives) (map (λ (e : StmtWith). e.0) ws)))
        (w.1 (all_left rules.Allowed (stmt_names w.0) (block_names (map (λ (e : StmtWith). e.0) ws)) all) base has)
        (λ ms u g q. stmts_in_order ws (all_right rules.Allowed (stmt_names w.0) (block_names (map (λ (e : StmtWith). e.0) ws)) all) ms (given_later base ms g has))

    return_keeps : (tok : Tok) (r : Option ℕ) (value : Option Expr) (base : List Made) → HasGiven base r → Keeps rules base Nothing (returned set tok r value)
    return_keeps tok r None base has = keeps_done rules base Nothing tt (λ ms g. tt)
    return_keeps tok None (Some e) base has = keeps_refused rules base Nothing tok input.NoValue
    return_keeps tok (Some r) (Some e) base has =
        let at : r < length base = has r refl in
        keeps_then rules base HasVertex Nothing (expr_walk set e) (λ value. flow set.kind value r) (expr_keeps rules set goes e base)
        (λ ms v g q. flow_keeps rules ms set.kind v r q (omega (arith, g.longer)))

    if_keeps : (condition : Expr) (body : StmtWith) (other : Option Stmt) → All rules.Allowed (stmt_names body.0) → ((base : List Made) → HasGiven base gives → Keeps rules base Nothing (else_walk set gives other)) → (base : List Made) → HasGiven base gives → Keeps rules base Nothing (stmt_walk set gives (stmt.If condition body.0 other))
    if_keeps condition body other all k base has =
        subst (Keeps rules base Nothing) (sym (stmt_if set gives condition body.0 other))
        (keeps_then rules base HasVertex Nothing (expr_walk set condition) (λ _. stmt_walk set gives body.0 ⟫ λ _. else_walk set gives other) (expr_keeps rules set goes condition base) (λ ms v g q.
        keeps_then rules ms Nothing Nothing (stmt_walk set gives body.0) (λ _. else_walk set gives other) (body.1 all ms (given_later base ms g has)) (λ ns u h q. k ns (given_later base ns (grows_then base ms ns g h) has))))

    stmt_step : (y : Stmt-F StmtWith) → StmtFact (roll-Stmt (map-Stmt StmtWith Stmt (λ e. e.0) y))
    stmt_step (s.Declared d) all base has =
        subst (Keeps rules base Nothing) (sym (ap (stmt_walk set gives) (stmt.rolls-Declared d) ∙ stmt_declared set gives d)) (vars_keep d.vars (all_layer rules.Allowed (s.Declared d) all) base)
    stmt_step (s.Assign p value) all base has =
        subst (Keeps rules base Nothing) (sym (ap (stmt_walk set gives) (stmt.rolls-Assign p value) ∙ stmt_assign set gives p value))
        (keeps_then rules base IsPlace Nothing (place_walk set p) (λ t. expr_walk set value ⟫ λ v. flow set.kind v t) (place_keeps rules set goes p base) (λ ms t g q.
        let at : t < length ms = place_inside ms t q in
        keeps_then rules ms HasVertex Nothing (expr_walk set value) (λ v. flow set.kind v t) (expr_keeps rules set goes value ms) (λ ns v h is. flow_keeps rules ns set.kind v t is (omega (arith, h.longer)))))
    stmt_step (s.Call c) all base has =
        subst (Keeps rules base Nothing) (sym (ap (stmt_walk set gives) (stmt.rolls-Call c) ∙ stmt_call set gives c))
        (keeps_then rules base HasGiven Nothing (call_walk set c).walk (λ _. done tt) (call_keeps rules set goes c base) (λ ms t g q. keeps_done rules ms Nothing tt (λ ns h. tt)))
    stmt_step (s.Block ws) all base has =
        let stmts = map (λ (e : StmtWith). e.0) ws in
        subst (Keeps rules base Nothing) (sym (ap (stmt_walk set gives) (stmt.rolls-Block stmts) ∙ stmt_block set gives stmts))
        (scoped_keeps rules base Nothing [] (in_order (map (stmt_walk set gives) stmts)) (All-nil (IsVariable base)) (stmts_in_order ws (all_layer rules.Allowed (s.Block stmts) all) base has))
    stmt_step s.Empty all base has =
        subst (Keeps rules base Nothing) (sym (ap (stmt_walk set gives) stmt.rolls-Empty ∙ stmt_empty set gives)) (keeps_done rules base Nothing tt (λ ms g. tt))
    stmt_step (s.If condition body None) all base has =
        subst (λ t. Keeps rules base Nothing (stmt_walk set gives t)) (sym (stmt.rolls-If condition body.0 None))
        (if_keeps condition body None (all_left rules.Allowed (stmt_names body.0) [] (all_layer rules.Allowed (s.If condition body.0 None) all)) (λ ms h. keeps_done rules ms Nothing tt (λ ns g. tt)) base has)
    stmt_step (s.If condition body (Some other)) all base has =
        subst (λ t. Keeps rules base Nothing (stmt_walk set gives t)) (sym (stmt.rolls-If condition body.0 (Some other.0)))
        (let both = all_layer rules.Allowed (s.If condition body.0 (Some other.0)) all in
        if_keeps condition body (Some other.0) (all_left rules.Allowed (stmt_names body.0) (stmt_names other.0) both) (other.1 (all_right rules.Allowed (stmt_names body.0) (stmt_names other.0) both)) base has)
    stmt_step (s.While condition body) all base has =
        subst (Keeps rules base Nothing) (sym (ap (stmt_walk set gives) (stmt.rolls-While condition body.0) ∙ stmt_while set gives condition body.0))
        (keeps_then rules base HasVertex Nothing (expr_walk set condition) (λ _. stmt_walk set gives body.0) (expr_keeps rules set goes condition base) (λ ms v g q. body.1 (all_layer rules.Allowed (s.While condition body.0) all) ms (given_later base ms g has)))
    stmt_step (s.Return tok value) all base has =
        subst (Keeps rules base Nothing) (sym (ap (stmt_walk set gives) (stmt.rolls-Return tok value) ∙ stmt_return set gives tok value)) (return_keeps tok gives value base has)

    stmt_keeps : (t : Stmt) → StmtFact t
    stmt_keeps = ind-Stmt StmtFact (λ x y is. subst (λ x. StmtFact (roll-Stmt x)) is (stmt_step y))

    stmts_keep : (stmts : List Stmt) → All rules.Allowed (block_names stmts) → (base : List Made) → HasGiven base gives → Keeps rules base Nothing (in_order (map (stmt_walk set gives) stmts))
    stmts_keep [] all base has = keeps_done rules base Nothing tt (λ ms g. tt)
    stmts_keep (w ∷ ws) all base has = keeps_then rules base Nothing Nothing (stmt_walk set gives w) (λ _. in_order (map (stmt_walk set gives) ws)) (stmt_keeps w (all_left rules.Allowed (stmt_names w) (block_names ws) all) base has)
        (λ ms u g q. stmts_keep ws (all_right rules.Allowed (stmt_names w) (block_names ws) all) ms (given_later base ms g has))

  body_keeps : (body : List Stmt) (target : Target) (base : List Made) → All rules.Allowed (block_names body) → Callable base target → Keeps rules base Nothing (body_walk set body target)
  body_keeps body target base all c =
      scoped_keeps rules base Nothing (reverse target.params) (in_order (map (stmt_walk set target.gives) body)) (all_reverse (IsVariable base) target.params c.params)
      (stmts_keep target.gives body all base c.gives)

  item_keeps : (i : Item) → All rules.Allowed (item_names i) → Always rules Nothing (item_walk set i)
  item_keeps (item.Declared d) all base = vars_keep d.vars all base
  item_keeps (item.Function f) all base =
      let body = all_right rules.Allowed (param_names f.params) (block_names f.block) (All-tail rules.Allowed f.name.bytes (param_names f.params ++ block_names f.block) all) in
      keeps_then rules base (CallGoes rules f.name.bytes) Nothing (set.goes f.name) (body_walk set f.block) (goes f.name base) (λ ms t g q. body_keeps f.block t ms body q.callable)

  pub items_keep : (items : List Item) → All rules.Allowed (declared_names items) → Always rules Nothing (items_walk set items)
  items_keep [] all base = keeps_done rules base Nothing tt (λ ms g. tt)
  items_keep (i ∷ is) all base = keeps_then rules base Nothing Nothing (item_walk set i) (λ _. items_walk set is) (item_keeps i (all_left rules.Allowed (item_names i) (declared_names is) all) base) (λ ms u g q. items_keep is (all_right rules.Allowed (item_names i) (declared_names is) all) ms)

-- ---- a call goes to a function of the program
abbrev IsOfName : Rules → Known → Type 0
IsOfName rules f = rules.Allowed f.name

called_first : (rules : Rules) (ms : List Made) (name : List ℕ) (f : Known) (fs : List Known) (t : Target) → Callable ms f.target → rules.Allowed f.name → (known_as name fs ≡ Some t → CallGoes rules name ms t) → (b : Bool) → bytes_eq f.name name ≡ b
    → option_map (λ (f : Known). f.target) (cond b (Some f) (find (λ (f : Known). bytes_eq f.name name) fs)) ≡ Some t → CallGoes rules name ms t
called_first rules ms name f fs t here named more true same is =
    let at : f.target ≡ t = cc in
    record { callable = subst (Callable ms) at here; allowed = subst rules.Allowed ((bytes_eq-Decides f.name name).0 same) named }
called_first rules ms name f fs t here named more false same is = more is

called : (rules : Rules) (ms : List Made) (name : List ℕ) (known : List Known) (t : Target) → All (IsCallable ms) known → All (IsOfName rules) known → known_as name known ≡ Some t → CallGoes rules name ms t
called rules ms name [] t all names h = absurd (cc)
called rules ms name (f ∷ fs) t all names h =
    called_first rules ms name f fs t (All-head (IsCallable ms) f fs all) (All-head (IsOfName rules) f fs names)
    (λ h. called rules ms name fs t (All-tail (IsCallable ms) f fs all) (All-tail (IsOfName rules) f fs names) h) (bytes_eq f.name name) refl h

goes_made : (rules : Rules) (name : Name) (s : State) (o : Option Target) → known_as name.bytes rules.known ≡ o → Good rules s → (a : Target) (t : State) → known_or o name s ≡ Ok (t, a) → Leaves rules (CallGoes rules name.bytes) s a t
goes_made rules name s (Some c) is good a t e =
    leaves_as rules (CallGoes rules name.bytes) s s t c a e (record { good = good; grows = grows_none s.vertices; value = called rules s.vertices name.bytes rules.known c good.targets rules.named is })
goes_made rules name s None is good a t e = absurd (cc)

goes_keep : (k : EmitKind) (rules : Rules) (name : Name) → Always rules (CallGoes rules name.bytes) ((setting k rules.known).goes name)
goes_keep k rules name base = record { leaves = λ s good g a t e. goes_made rules name s (known_as name.bytes rules.known) refl good a t e }

-- ---- the functions of a program
module _ (rules : Rules) where
  abbrev AllVariables : List Made → List Bound → Type 0
  AllVariables ms names = All (IsVariable ms) names

  -- functions that can be called, of names that are allowed
  abbrev AllCallable : List Made → List Known → Type 0
  AllCallable ms known = All (IsCallable ms) known × All (IsOfName rules) known

  param_keeps : (before : List Bound) (p : Param) (base : List Made) → rules.Allowed p.name.bytes → AllVariables base before → Keeps rules base AllVariables (param_made before p)
  param_keeps before p base allowed all =
      let w = fresh p.name.tok form.Variable p.name.bytes ⟫ λ t. done (let b : Bound = record { name = p.name.bytes; vertex = t } in b ∷ before) in
      elim (is_some (bound_to p.name.bytes before)) as (λ b. Keeps rules base AllVariables (cond b (refuse p.name.tok input.Repeated) w)) [
        | true ↦ keeps_refused rules base AllVariables p.name.tok input.Repeated
        | false ↦ keeps_then rules base (IsOf form.Variable) AllVariables (fresh p.name.tok form.Variable p.name.bytes) (λ t. done (let b : Bound = record { name = p.name.bytes; vertex = t } in b ∷ before)) (fresh_keeps rules base p.name.tok form.Variable p.name.bytes refl allowed) (λ ms t g q.
            let b : Bound = record { name = p.name.bytes; vertex = t } in
            keeps_done rules ms AllVariables (b ∷ before) (λ ns h. All-cons (IsVariable ns) b before (h.has t form.Variable q) (variables_grown base ns before (grows_then base ms ns g h) all)))
      ]

  params_keep : (before : List Bound) (ps : List Param) (base : List Made) → All rules.Allowed (param_names ps) → AllVariables base before → Keeps rules base AllVariables (params_made before ps)
  params_keep before [] base names all = keeps_done rules base AllVariables (reverse before) (λ ms g. all_reverse (IsVariable ms) before (variables_grown base ms before g all))
  params_keep before (p ∷ ps) base names all = keeps_then rules base AllVariables AllVariables (param_made before p) (λ more. params_made more ps) (param_keeps before p base (All-head rules.Allowed p.name.bytes (param_names ps) names) all)
      (λ ms more g q. params_keep more ps ms (All-tail rules.Allowed p.name.bytes (param_names ps) names) q)

  return_made_keeps : (f : Function) → rules.Allowed f.name.bytes → Always rules HasGiven (return_made f)
  return_made_keeps f allowed base =
      let w = fresh f.name.tok form.Return f.name.bytes ⟫ λ t. done (Some t) in
      elim (gives_nothing f.base f.stars) as (λ b. Keeps rules base HasGiven (cond b (done None) w)) [
        | true ↦ keeps_done rules base HasGiven None (λ ms g t e. absurd (cc))
        | false ↦ keeps_then rules base (IsOf form.Return) HasGiven (fresh f.name.tok form.Return f.name.bytes) (λ t. done (Some t)) (fresh_keeps rules base f.name.tok form.Return f.name.bytes refl allowed) (λ ms t g q.
            let at : t < length ms = has_within ms t form.Return q in
            keeps_done rules ms HasGiven (Some t) (λ ns h x e. let same : t ≡ x = cc in omega (arith, h.longer)))
      ]

  target_keeps : (f : Function) → All rules.Allowed (function_names f) → Always rules Callable (target_made f)
  target_keeps f names base =
      let inside = param_names f.params ++ block_names f.block in
      let params_named = all_left rules.Allowed (param_names f.params) (block_names f.block) (All-tail rules.Allowed f.name.bytes inside names) in
      keeps_then rules base AllVariables Callable (params_made [] f.params) (λ params. return_made f ⟫ λ gives. done (let t : Target = record { params = params; gives = gives } in t)) (params_keep [] f.params base params_named (All-nil (IsVariable base))) (λ ms params g vars.
      keeps_then rules ms HasGiven Callable (return_made f) (λ gives. done (let t : Target = record { params = params; gives = gives } in t)) (return_made_keeps f (All-head rules.Allowed f.name.bytes inside names) ms) (λ ns gives h has.
      keeps_done rules ns Callable (record { params = params; gives = gives }) (λ os i. record {
        params = variables_grown ms os params (grows_then ms ns os h i) vars;
        gives = λ r e. let at : r < length ns = has r e in omega (arith, i.longer);
      })))

  function_keeps : (before : List Known) (f : Function) (base : List Made) → All rules.Allowed (function_names f) → AllCallable base before → Keeps rules base AllCallable (function_made before f)
  function_keeps before f base names all =
      let w = target_made f ⟫ λ target. done (let k : Known = record { name = f.name.bytes; target = target } in k ∷ before) in
      elim (is_some (known_as f.name.bytes before)) as (λ b. Keeps rules base AllCallable (cond b (refuse f.name.tok input.Repeated) w)) [
        | true ↦ keeps_refused rules base AllCallable f.name.tok input.Repeated
        | false ↦ keeps_then rules base Callable AllCallable (target_made f) (λ target. done (let k : Known = record { name = f.name.bytes; target = target } in k ∷ before)) (target_keeps f names base) (λ ms target g q.
            let k : Known = record { name = f.name.bytes; target = target } in
            keeps_done rules ms AllCallable (k ∷ before) (λ ns h. (
              All-cons (IsCallable ns) k before (callable_grown ms ns target h q) (callables_grown base ns before (grows_then base ms ns g h) all.0),
              All-cons (IsOfName rules) k before (All-head rules.Allowed f.name.bytes (param_names f.params ++ block_names f.block) names) all.1,
            )))
      ]

  item_made_keeps : (before : List Known) (i : Item) (base : List Made) → All rules.Allowed (item_names i) → AllCallable base before → Keeps rules base AllCallable (item_made before i)
  item_made_keeps before (item.Declared d) base names all = keeps_done rules base AllCallable before (λ ms g. (callables_grown base ms before g all.0, all.1))
  item_made_keeps before (item.Function f) base names all = function_keeps before f base names all

  pub functions_keep : (before : List Known) (items : List Item) (base : List Made) → All rules.Allowed (declared_names items) → AllCallable base before → Keeps rules base AllCallable (functions_made before items)
  functions_keep before [] base names all = keeps_done rules base AllCallable before (λ ms g. (callables_grown base ms before g all.0, all.1))
  functions_keep before (i ∷ items) base names all = keeps_then rules base AllCallable AllCallable (item_made before i) (λ known. functions_made known items) (item_made_keeps before i base (all_left rules.Allowed (item_names i) (declared_names items) names) all)
      (λ ms known g q. functions_keep known items ms (all_right rules.Allowed (item_names i) (declared_names items) names) q)

-- ---- a program
-- the names that the vertices of a program may have
abbrev pub MayBeNamed : List Item → List ℕ → Type 0
MayBeNamed items name = (name ≡ []) ⊎ Contains (declared_names items) name

abbrev rules_of : (items : List Item) (known : List Known) → All (λ (f : Known). MayBeNamed items f.name) known → Rules
rules_of items known named = record { Allowed = MayBeNamed items; empty = inl refl; known = known; named = named }

declared_may : (items : List Item) → All (MayBeNamed items) (declared_names items)
declared_may items = All-weaker (Contains (declared_names items)) (MayBeNamed items) (λ name h. inr h) (declared_names items) (All-contains_itself (declared_names items))

-- what the walk of a program leaves
pub record Left (items : List Item) (t : State) : Type 0 where
  pub kept : Kept t.vertices t.edges
  pub named : All (λ (m : Made). MayBeNamed items m.name) t.vertices

program_left : (k : EmitKind) (items : List Item) (t : State) → program_walk k items blank ≡ Ok (t, tt) → Left items t
unfolding ◌⟫◌
program_left k items t e =
    let h = halves (functions_made [] items blank) (λ known. items_walk (setting k known) items) t tt e in
    let none : Rules = rules_of items [] (All-nil (λ (f : Known). MayBeNamed items f.name)) in
    let start : Good none blank = record { kept = kept_none; named = All-nil (IsNamed none); inner = All-nil (IsVariable []); outer = All-nil (IsVariable []); targets = All-nil (IsCallable []) } in
    let l = (functions_keep none [] items [] (declared_may items) (All-nil (IsCallable []), All-nil (IsOfName none))).leaves blank start (grows_none []) h.value h.at h.first in
    let all : Rules = rules_of items h.value l.value.1 in
    let good : Good all h.at = record { kept = l.good.kept; named = l.good.named; inner = l.good.inner; outer = l.good.outer; targets = l.value.0 } in
    let m = (items_keep all (setting k h.value) (goes_keep k all) items (declared_may items) h.at.vertices).leaves h.at good (grows_none h.at.vertices) tt t h.second in
    record { kept = m.good.kept; named = m.good.named }

-- ---- the list of a graph
shown_form : (o : Option Made) → option_map (λ (v : Vertex). v.form) (option_map shown o) ≡ option_map (λ (m : Made). m.form) o
shown_form None = refl
shown_form (Some m) = refl

has_of : (ms : List Made) (k : ℕ) (f : VertexForm) → HasForm (map shown ms) k f → Has ms k f
has_of ms k f h = sym (shown_form (slice_get ms k)) ∙ sym (ap (option_map (λ (v : Vertex). v.form)) (slice_get-map shown ms k)) ∙ h

of_has : (ms : List Made) (k : ℕ) (f : VertexForm) → Has ms k f → HasForm (map shown ms) k f
of_has ms k f h = ap (option_map (λ (v : Vertex). v.form)) (slice_get-map shown ms k) ∙ shown_form (slice_get ms k) ∙ h

listed_kept : (s : State) → Kept s.vertices s.edges → IsGraphOfProgram (listed s)
listed_kept s k =
    let ms = s.vertices in
    let long : length (map shown ms) ≡ length ms = length-map ms shown in
    record {
      listed = record {
        few = omega (arith, k.few);
        earlier = λ v f h. k.earlier v f (has_of ms v f h);
        inside = subst (λ n. All (IsEdgeBelow n) s.edges) (sym long) k.inside;
      };
      one_deref = λ v w base h g. k.one_deref v w base (has_of ms v (form.Deref base) h) (has_of ms w (form.Deref base) g);
      one_address = λ v w base h g. k.one_address v w base (has_of ms v (form.Address base) h) (has_of ms w (form.Address base) g);
      deref_edge = λ v base h. k.deref_edge v base (has_of ms v (form.Deref base) h);
      address_edge = λ v base h. k.address_edge v base (has_of ms v (form.Address base) h);
      of_variables = λ v base h. of_has ms base form.Variable (k.of_variables v base (has_of ms v (form.Address base) h));
      inverses = k.inverses;
    }

-- the graph of a program keeps the rules of such graphs
pub graph_kept : (k : EmitKind) (p : Program) (t : State) → graph_of k p ≡ Ok (t, tt) → IsGraphOfProgram (listed t)
graph_kept k p t e = listed_kept t (program_left k p.items t e).kept

pub graph_keeps_rules : (k : EmitKind) (p : Program) (list : Listed) → IsProgramGraph k p list → IsGraphOfProgram list
graph_keeps_rules k p list g = subst IsGraphOfProgram (sym g.same) (graph_kept k p g.state g.walked)

pub graph_is_named : (k : EmitKind) (p : Program) (list : Listed) → IsProgramGraph k p list → All (IsNamedBy (declared_names p.items)) list.vertices
graph_is_named k p list g =
    let names = declared_names p.items in
    subst (λ (l : Listed). All (IsNamedBy names) l.vertices) (sym g.same)
    (All-map (IsNamedBy names) shown g.state.vertices (program_left k p.items g.state g.walked).named)
