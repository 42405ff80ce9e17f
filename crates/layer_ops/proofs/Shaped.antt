-- What the shapes of edges answer, by what linking, dividing and the test of paths answered.
use Rattle.std.proofs.Common.{◌≡◌, inl, inr, Bool, true, false, ◌&&◌, cond, List, Result, Ok, Err, refl, sym, ap, subst, ◌∙◌}
use Rattle.std.specs.Global.{Vec}
use Rattle.std.specs.List.{list_all}
use Rattle.lay_point.specs.declared.ring.Ring.{Ring}
use Rattle.lay_point.specs.Memory.{IsAnswer}
use Rattle.lay_point.proofs.BoolLaws.{and-false}
use Rattle.face_ring_laws.specs.Linking.{Ends, linked_rings}
use Rattle.face_rings.specs.declared.fault.LinkFault.{LinkFault}
use Rattle.face_rings.specs.declared.fault.LinkFault.TheVariants as link
use Rattle.face_ring_laws.specs.Parts.{AreParts}
use Rattle.bool_rules.specs.Dividing.{parts_of}
use Rattle.bool_rules.specs.Shapes.{Rings, are_short, is_short}
use Rattle.bool_rules.proofs.LabelLemmas.{parts_exist}
use Rattle.bool_rules.proofs.OneDivision.{parts_are_unique}
use Rattle.layer_ops.specs.declared.fault.OpFault.{OpFault}
use Rattle.layer_ops.specs.declared.fault.OpFault.TheVariants.{NoMemory, TooMany}
use Rattle.layer_ops.specs.Combining.{shape_lists, shaped, tested_shapes}
use Rattle.layer_ops.specs.Faults.{fault_of}

-- ---- the parts are those of the edges' rings
pub parts_are : (edges : List Ends) (rings : Rings) (parts : List Rings) → rings ≡ linked_rings edges → AreParts rings parts
    → parts ≡ parts_of (linked_rings edges)
parts_are edges rings parts same h =
    parts_are_unique (linked_rings edges) parts (parts_of (linked_rings edges)) (subst (λ rs. AreParts rs parts) same h)
    (parts_exist (linked_rings edges))

-- ---- what is answered
long_ring : (edges : List Ends) → list_all is_short (linked_rings edges) ≡ false → shaped edges ≡ Err TooMany
unfolding shaped
long_ring edges h =
    let parts = parts_of (linked_rings edges) in
    ap (λ b. cond {A = Result (List Rings) OpFault} (b && are_short parts) (Ok parts) (Err TooMany)) h

long_path : (edges : List Ends) → are_short (parts_of (linked_rings edges)) ≡ false → shaped edges ≡ Err TooMany
unfolding shaped
long_path edges h =
    let parts = parts_of (linked_rings edges) in
    ap (λ b. cond {A = Result (List Rings) OpFault} (list_all is_short (linked_rings edges) && b) (Ok parts) (Err TooMany)) h
    ∙ ap (λ b. cond {A = Result (List Rings) OpFault} b (Ok parts) (Err TooMany)) (and-false (list_all is_short (linked_rings edges)))

all_fit : (edges : List Ends) → list_all is_short (linked_rings edges) ≡ true → are_short (parts_of (linked_rings edges)) ≡ true
    → shaped edges ≡ Ok (parts_of (linked_rings edges))
unfolding shaped
all_fit edges h g =
    let parts = parts_of (linked_rings edges) in
    λ k. cond {A = Result (List Rings) OpFault} (h k && g k) (Ok parts) (Err TooMany)

-- ---- linking fails
pub link_failed : (edges : List Ends) (fault : LinkFault) (result : Result (Vec (Vec Ring)) OpFault) → result ≡ Err (fault_of fault)
    → (fault ≡ link.TooMany → list_all is_short (linked_rings edges) ≡ false) → IsAnswer NoMemory (shape_lists result) (shaped edges)
link_failed edges link.TooMany result e h = inr (ap shape_lists e ∙ sym (long_ring edges (h refl)))
link_failed edges link.NoMemory result e h = inl (ap shape_lists e)

-- ---- the test of paths
test_cases : (b : Bool) (fault : OpFault) → Err fault ≡ cond {A = Result (Unit {0}) OpFault} b (Ok tt) (Err TooMany)
    → (b ≡ false) × (fault ≡ TooMany)
test_cases true fault e = absurd cc
test_cases false fault e = (refl, cc)

pub test_failed : (edges : List Ends) (parts : List Rings) (answer : Result (Unit {0}) OpFault) (fault : OpFault)
    (result : Result (Vec (Vec Ring)) OpFault) → answer ≡ Err fault → answer ≡ tested_shapes parts
    → parts ≡ parts_of (linked_rings edges) → result ≡ Err fault → IsAnswer NoMemory (shape_lists result) (shaped edges)
test_failed edges parts answer fault result was tested_so same e =
    let long = test_cases (are_short parts) fault (sym was ∙ tested_so) in
    inr (ap shape_lists e ∙ ap Err long.1 ∙ sym (long_path edges (sym (ap are_short same) ∙ long.0)))

passed_cases : (b : Bool) → Ok tt ≡ cond {A = Result (Unit {0}) OpFault} b (Ok tt) (Err TooMany) → b ≡ true
passed_cases true e = refl
passed_cases false e = absurd cc

pub test_passed : (edges : List Ends) (parts : List Rings) (answer : Result (Unit {0}) OpFault) → answer ≡ Ok tt
    → answer ≡ tested_shapes parts → list_all is_short (linked_rings edges) ≡ true → parts ≡ parts_of (linked_rings edges)
    → IsAnswer NoMemory (Ok parts) (shaped edges)
test_passed edges parts answer was tested_so short same =
    let paths = passed_cases (are_short parts) (sym was ∙ tested_so) in
    inr (ap Ok same ∙ sym (all_fit edges short (sym (ap are_short same) ∙ paths)))
