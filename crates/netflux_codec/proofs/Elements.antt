-- The elements of an array, one by one.
use Rattle.std.proofs.Common.{◌≡◌, ◌<◌, ◌≤◌, List, [], ◌∷◌, map, length, get_or, arith}
use Rattle.serde_json.specs.Data.{Data}
use Rattle.serde_json.specs.View.{view}
use Rattle.serde_json.specs.declared.value.Value.{Value}

-- seven elements, each with what it is seen as
pub seven : (vs : List Value) (a b c d e f g : Value) (da db dc dd de df dg : Data) → 7 ≤ length vs → length vs < 8
    → a ≡ get_or vs 0 a → b ≡ get_or vs 1 b → c ≡ get_or vs 2 c → d ≡ get_or vs 3 d → e ≡ get_or vs 4 e → f ≡ get_or vs 5 f → g ≡ get_or vs 6 g
    → view a ≡ da → view b ≡ db → view c ≡ dc → view d ≡ dd → view e ≡ de → view f ≡ df → view g ≡ dg
    → map view vs ≡ da ∷ db ∷ dc ∷ dd ∷ de ∷ df ∷ dg ∷ []
seven [] a b c d e f g da db dc dd de df dg least most ia ib ic id ie if ig va vb vc vd ve vf vg = absurd (omega arith)
seven (v0 ∷ []) a b c d e f g da db dc dd de df dg least most ia ib ic id ie if ig va vb vc vd ve vf vg = absurd (omega arith)
seven (v0 ∷ v1 ∷ []) a b c d e f g da db dc dd de df dg least most ia ib ic id ie if ig va vb vc vd ve vf vg = absurd (omega arith)
seven (v0 ∷ v1 ∷ v2 ∷ []) a b c d e f g da db dc dd de df dg least most ia ib ic id ie if ig va vb vc vd ve vf vg = absurd (omega arith)
seven (v0 ∷ v1 ∷ v2 ∷ v3 ∷ []) a b c d e f g da db dc dd de df dg least most ia ib ic id ie if ig va vb vc vd ve vf vg = absurd (omega arith)
seven (v0 ∷ v1 ∷ v2 ∷ v3 ∷ v4 ∷ []) a b c d e f g da db dc dd de df dg least most ia ib ic id ie if ig va vb vc vd ve vf vg = absurd (omega arith)
seven (v0 ∷ v1 ∷ v2 ∷ v3 ∷ v4 ∷ v5 ∷ []) a b c d e f g da db dc dd de df dg least most ia ib ic id ie if ig va vb vc vd ve vf vg = absurd (omega arith)
seven (v0 ∷ v1 ∷ v2 ∷ v3 ∷ v4 ∷ v5 ∷ v6 ∷ v7 ∷ vs) a b c d e f g da db dc dd de df dg least most ia ib ic id ie if ig va vb vc vd ve vf vg = absurd (omega arith)
seven (v0 ∷ v1 ∷ v2 ∷ v3 ∷ v4 ∷ v5 ∷ v6 ∷ []) a b c d e f g da db dc dd de df dg least most ia ib ic id ie if ig va vb vc vd ve vf vg =
    rw (← ia, ← ib, ← ic, ← id, ← ie, ← if, ← ig, va, vb, vc, vd, ve, vf, vg)

-- eight
pub eight : (vs : List Value) (a b c d e f g h : Value) (da db dc dd de df dg dh : Data) → 8 ≤ length vs → length vs < 9
    → a ≡ get_or vs 0 a → b ≡ get_or vs 1 b → c ≡ get_or vs 2 c → d ≡ get_or vs 3 d → e ≡ get_or vs 4 e → f ≡ get_or vs 5 f → g ≡ get_or vs 6 g → h ≡ get_or vs 7 h
    → view a ≡ da → view b ≡ db → view c ≡ dc → view d ≡ dd → view e ≡ de → view f ≡ df → view g ≡ dg → view h ≡ dh
    → map view vs ≡ da ∷ db ∷ dc ∷ dd ∷ de ∷ df ∷ dg ∷ dh ∷ []
eight [] a b c d e f g h da db dc dd de df dg dh least most ia ib ic id ie if ig ih va vb vc vd ve vf vg vh = absurd (omega arith)
eight (v0 ∷ []) a b c d e f g h da db dc dd de df dg dh least most ia ib ic id ie if ig ih va vb vc vd ve vf vg vh = absurd (omega arith)
eight (v0 ∷ v1 ∷ []) a b c d e f g h da db dc dd de df dg dh least most ia ib ic id ie if ig ih va vb vc vd ve vf vg vh = absurd (omega arith)
eight (v0 ∷ v1 ∷ v2 ∷ []) a b c d e f g h da db dc dd de df dg dh least most ia ib ic id ie if ig ih va vb vc vd ve vf vg vh = absurd (omega arith)
eight (v0 ∷ v1 ∷ v2 ∷ v3 ∷ []) a b c d e f g h da db dc dd de df dg dh least most ia ib ic id ie if ig ih va vb vc vd ve vf vg vh = absurd (omega arith)
eight (v0 ∷ v1 ∷ v2 ∷ v3 ∷ v4 ∷ []) a b c d e f g h da db dc dd de df dg dh least most ia ib ic id ie if ig ih va vb vc vd ve vf vg vh = absurd (omega arith)
eight (v0 ∷ v1 ∷ v2 ∷ v3 ∷ v4 ∷ v5 ∷ []) a b c d e f g h da db dc dd de df dg dh least most ia ib ic id ie if ig ih va vb vc vd ve vf vg vh = absurd (omega arith)
eight (v0 ∷ v1 ∷ v2 ∷ v3 ∷ v4 ∷ v5 ∷ v6 ∷ []) a b c d e f g h da db dc dd de df dg dh least most ia ib ic id ie if ig ih va vb vc vd ve vf vg vh = absurd (omega arith)
eight (v0 ∷ v1 ∷ v2 ∷ v3 ∷ v4 ∷ v5 ∷ v6 ∷ v7 ∷ v8 ∷ vs) a b c d e f g h da db dc dd de df dg dh least most ia ib ic id ie if ig ih va vb vc vd ve vf vg vh = absurd (omega arith)
eight (v0 ∷ v1 ∷ v2 ∷ v3 ∷ v4 ∷ v5 ∷ v6 ∷ v7 ∷ []) a b c d e f g h da db dc dd de df dg dh least most ia ib ic id ie if ig ih va vb vc vd ve vf vg vh =
    rw (← ia, ← ib, ← ic, ← id, ← ie, ← if, ← ig, ← ih, va, vb, vc, vd, ve, vf, vg, vh)
