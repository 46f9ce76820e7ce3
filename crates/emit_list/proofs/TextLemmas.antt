-- The text of a vertex: its own, and then that of the vertex that it was made for.
use Rattle.std.proofs.Common.{◌≡◌, ℕ, zero, suc, ◌+◌, ◌<◌, List, [], ◌∷◌, ◌++◌, length, get_or, Option, Some, None, arith, refl, sym, ap, ◌∙◌, subst, length-append}
use Rattle.std.specs.Prelude.{slice_get}
use Rattle.std.proofs.Math.ListN.{get_or-append}
use Rattle.std.proofs.Math.Seq.{get_or-append_seam}
use Rattle.emit_list.specs.declared.vertex.VertexForm.{VertexForm}
use Rattle.emit_list.specs.declared.vertex.VertexForm.TheVariants as form
use Rattle.emit_list.specs.declared.vertex.Vertex.{Vertex}
use Rattle.emit_list.specs.Vertices.{made_for, IsBelow}
use Rattle.emit_list.specs.Printed.{base_text, behind_mark, texts_behind, text_of}

-- the texts of earlier vertices stay
stays : (earlier : List (List ℕ)) (vs : List Vertex) (i : ℕ) → i < length earlier → get_or (texts_behind earlier vs) i [] ≡ get_or earlier i []
stays earlier [] i h = refl
stays earlier (v ∷ vs) i h =
    let t = base_text v ++ behind_mark v.form earlier in
    stays (earlier ++ t ∷ []) vs i (omega (arith, length-append earlier (t ∷ []))) ∙ get_or-append earlier (t ∷ []) [] i h

mark_stays : (f : VertexForm) (earlier : List (List ℕ)) (vs : List Vertex) → IsBelow (length earlier) f → behind_mark f earlier ≡ behind_mark f (texts_behind earlier vs)
mark_stays form.Variable earlier vs b = refl
mark_stays form.Return earlier vs b = refl
mark_stays (form.Deref base) earlier vs b = sym (stays earlier vs base (b base refl))
mark_stays (form.Address base) earlier vs b = sym (stays earlier vs base (b base refl))
mark_stays form.Number earlier vs b = refl
mark_stays form.Null earlier vs b = refl
mark_stays form.Op earlier vs b = refl
mark_stays form.Call earlier vs b = refl
mark_stays form.Malloc earlier vs b = refl

some_is : (x v : Vertex) → Some x ≡ Some v → x ≡ v
some_is x v e = cc

text_at : (earlier : List (List ℕ)) (vs : List Vertex) (j : ℕ) (v : Vertex) → slice_get vs j ≡ Some v → IsBelow (length earlier + j) v.form
    → get_or (texts_behind earlier vs) (length earlier + j) [] ≡ base_text v ++ behind_mark v.form (texts_behind earlier vs)
text_at earlier [] j v e b = absurd (cc)
text_at earlier (x ∷ vs) zero v e b =
    let same : x ≡ v = some_is x v e in
    let t = base_text x ++ behind_mark x.form earlier in
    let n : length earlier + 0 ≡ length earlier = omega arith in
    let long : length (earlier ++ t ∷ []) ≡ length earlier + 1 = length-append earlier (t ∷ []) in
    let below : IsBelow (length earlier) x.form = λ base q. let h : base < length earlier + 0 = b base (subst (λ (y : Vertex). made_for y.form ≡ Some base) same q) in omega arith in
    let first = ap (λ i. get_or (texts_behind earlier (x ∷ vs)) i []) n in
    let seam = stays (earlier ++ t ∷ []) vs (length earlier) (omega arith) ∙ get_or-append_seam earlier t [] [] in
    let mark = ap (λ l. base_text x ++ l) (mark_stays x.form earlier (x ∷ vs) below) in
    subst (λ (y : Vertex). get_or (texts_behind earlier (x ∷ vs)) (length earlier + 0) [] ≡ base_text y ++ behind_mark y.form (texts_behind earlier (x ∷ vs))) same (first ∙ seam ∙ mark)
text_at earlier (x ∷ vs) (suc j) v e b =
    let t = base_text x ++ behind_mark x.form earlier in
    let n : length earlier + suc j ≡ length (earlier ++ t ∷ []) + j = omega (arith, length-append earlier (t ∷ [])) in
    let below : IsBelow (length (earlier ++ t ∷ []) + j) v.form = subst (λ m. IsBelow m v.form) n b in
    ap (λ i. get_or (texts_behind earlier (x ∷ vs)) i []) n ∙ text_at (earlier ++ t ∷ []) vs j v e below

-- the text from a vertex on, or none
abbrev pub text_from : List Vertex → Option ℕ → List ℕ
text_from vs None = []
text_from vs (Some k) = text_of vs k

behind_is : (vs : List Vertex) (f : VertexForm) → behind_mark f (texts_behind [] vs) ≡ text_from vs (made_for f)
behind_is vs form.Variable = refl
behind_is vs form.Return = refl
behind_is vs (form.Deref base) = refl
behind_is vs (form.Address base) = refl
behind_is vs form.Number = refl
behind_is vs form.Null = refl
behind_is vs form.Op = refl
behind_is vs form.Call = refl
behind_is vs form.Malloc = refl

pub text_is : (vs : List Vertex) (k : ℕ) (v : Vertex) → slice_get vs k ≡ Some v → IsBelow k v.form → text_of vs k ≡ base_text v ++ text_from vs (made_for v.form)
text_is vs k v e b =
    let n : 0 + k ≡ k = omega arith in
    ap (λ i. get_or (texts_behind [] vs) i []) (sym n) ∙ text_at [] vs k v e (subst (λ m. IsBelow m v.form) (sym n) b) ∙ ap (λ l. base_text v ++ l) (behind_is vs v.form)
