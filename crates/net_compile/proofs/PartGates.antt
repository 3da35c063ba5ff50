-- The gates of parts, one after another.
use Rattle.std.proofs.Common.{◌≡◌, ◌≤◌, ◌<◌, ◌+◌, ◌++◌, ℕ, zero, suc, List, [], ◌∷◌, length}
use Rattle.std.proofs.Common.{get_or, drop, refl, sym, ap, ◌∙◌, subst, arith}
use Rattle.std.proofs.lemmas.List.{get_or-map, drop_more}
use Rattle.model_line.specs.declared.line.Line.{Line}
use Rattle.model_plain.specs.declared.formula.Formula.{Formula}
use Rattle.model_plain.specs.Formulas.{tree_of, own_tree, trees_after, part_at, operations_of}
use Rattle.model_plain.specs.Formulas.{AreNamed}
use Rattle.net_gates.specs.{declared.gate.Gate.Gate, declared.gate.GateId.GateId}
use Rattle.net_gates.specs.{Formulas.formula_of, Formulas.Stands, Named.KeepsNames}
use Rattle.net_gates.specs.NetOf.{AreGatesOf, id_at}
use Rattle.net_compile.specs.Growing.{Grows, Extends, ExtendsByParts}
use Rattle.net_gates.specs.Formulas.{trees_of}
use Rattle.net_compile.specs.Compiled.{ArePartGates}

within_less : (id : GateId) (ids : List GateId) (n : ℕ) → AreGatesOf (id ∷ ids) n → AreGatesOf ids n
within_less id ids n within k lt = within (suc k) (omega arith)

-- gates that stand already keep their trees
pub trees_kept : (old new : List Gate) (ids : List GateId) → AreGatesOf ids (length old)
    → Grows old new → trees_of new ids ≡ trees_of old ids
trees_kept old new [] within grows = refl
trees_kept old new (id ∷ ids) within grows =
    let first : formula_of new id.0 ≡ formula_of old id.0 =
    grows.same id.0 (within 0 (omega arith)) in
    let rest : trees_of new ids ≡ trees_of old ids =
    trees_kept old new ids (within_less id ids (length old) within) grows in
    ap (λ t. t ∷ trees_of new ids) first ∙ ap (λ ts. formula_of old id.0 ∷ ts) rest

pub within_kept : (old new : List Gate) (ids : List GateId) → AreGatesOf ids (length old)
    → Grows old new → AreGatesOf ids (length new)
within_kept old new ids within grows k lt = omega (arith, within k lt, grows.longer)

-- the tree of the part at a place
pub part_is : (gates : List Gate) (ids : List GateId) (n : ℕ) (id : GateId) → n < length ids
    → id ≡ get_or ids n id → formula_of gates id.0 ≡ part_at (trees_of gates ids) n
part_is gates ids n id lt is =
    ap (λ i. formula_of gates i.0) is
    ∙ sym (get_or-map (λ i. formula_of gates i.0) ids n id _ lt)

within_push : (ids : List GateId) (last : GateId) (n : ℕ) → AreGatesOf ids n → last.0 < n
    → AreGatesOf (ids ++ last ∷ []) n
within_push [] last n within lt zero le = lt
within_push [] last n within lt (suc k) le = absurd (omega arith)
within_push (id ∷ ids) last n within lt zero le = within 0 (omega arith)
within_push (id ∷ ids) last n within lt (suc k) le =
    within_push ids last n (within_less id ids n within) lt k (omega arith)

trees_push : (gates : List Gate) (ids : List GateId) (last : GateId)
    → trees_of gates (ids ++ last ∷ []) ≡ trees_of gates ids ++ formula_of gates last.0 ∷ []
trees_push gates [] last = refl
trees_push gates (id ∷ ids) last = ap (λ ts. formula_of gates id.0 ∷ ts) (trees_push gates ids last)

-- some of the parts have their gates, and the rest is still to come
pub record HaveParts (initial net : List Gate) (ids : List GateId) (all rest : List Formula)
    : Type 0 where
  pub within : AreGatesOf ids (length net)
  pub trees : trees_after (trees_of net ids) rest ≡ trees_after [] all
  pub grows : Grows initial net
  pub few : length net + operations_of rest ≤ length initial + operations_of all
  pub named : (line : Line) → AreNamed line all → KeepsNames line initial net × AreNamed line rest

pub none_yet : (initial : List Gate) (all : List Formula) → Grows initial initial
    → HaveParts initial initial [] all all
none_yet initial all grows = record {
  within = λ k lt. absurd (omega arith);
  trees = refl;
  grows = grows;
  few = omega arith;
  named = λ line names. ((λ n before. before), names);
}

pub grows_on : (a b c : List Gate) → Grows a b → Grows b c → Grows a c
grows_on a b c first second = record {
  kept = λ i lt. second.kept i (omega (arith, first.longer)) ∙ first.kept i lt;
  longer = omega (arith, first.longer, second.longer);
  same = λ i lt. second.same i (omega (arith, first.longer)) ∙ first.same i lt;
}

module _ (initial mid new : List Gate) (ids : List GateId) (all rest : List Formula) (f : Formula)
    (have : HaveParts initial mid ids all (f ∷ rest)) (more : Extends (own_tree f) mid new) where
  pub extends_so_far : ExtendsByParts all initial new
  extends_so_far = record {
    grows = grows_on initial mid new have.grows more.grows;
    few = omega (arith, have.few, more.few);
    named = λ line names n before.
        more.named line (have.named line names).1.0 n ((have.named line names).0 n before);
  }

  pub parts_more : (id : GateId) → Stands new id.0 (tree_of (trees_of mid ids) f)
      → HaveParts initial new (ids ++ id ∷ []) all rest
  parts_more id stands = record {
    within =
        within_push ids id (length new) (within_kept mid new ids have.within more.grows)
        stands.within;
    trees =
        ap (λ ts. trees_after ts rest)
        (trees_push new ids id
        ∙ ap (λ ts. ts ++ formula_of new id.0 ∷ []) (trees_kept mid new ids have.within more.grows)
        ∙ ap (λ t. trees_of mid ids ++ t ∷ []) stands.is)
        ∙ have.trees;
    grows = extends_so_far.grows;
    few = omega (arith, have.few, more.few);
    named = λ line names.
        (extends_so_far.named line names, (have.named line names).1.1);
  }

pub all_parts : (initial net : List Gate) (ids : List GateId) (all : List Formula)
    → HaveParts initial net ids all [] → ArePartGates all net ids × ExtendsByParts all initial net
all_parts initial net ids all have = (
  record { within = have.within; trees = have.trees },
  record {
    grows = have.grows;
    few = omega (arith, have.few);
    named = λ line names. (have.named line names).0;
  },
)

-- the gate of a part stands for its tree
pub part_stands : (gates : List Gate) (ids : List GateId) (n : ℕ) (id : GateId)
    → AreGatesOf ids (length gates) → n < length ids → id ≡ get_or ids n id
    → Stands gates id.0 (part_at (trees_of gates ids) n)
part_stands gates ids n id within lt is =
    let number : id_at ids n ≡ id.0 =
    get_or-map (λ i. i.0) ids n id 0 lt ∙ ap (λ i. i.0) (sym is) in
    record {
      within = subst (λ i. i < length gates) number (within n lt);
      is = part_is gates ids n id lt is;
    }

-- the next of the parts
pub at_part : (initial net : List Gate) (ids : List GateId) (parts : List Formula) (i : ℕ)
    (f : Formula) → i < length parts → f ≡ get_or parts i f
    → HaveParts initial net ids parts (drop i parts)
    → HaveParts initial net ids parts (f ∷ drop (i + 1) parts)
at_part initial net ids parts i f lt is have =
    subst (HaveParts initial net ids parts)
    (drop_more parts i f lt ∙ ap (λ g. g ∷ drop (i + 1) parts) (sym is)) have
