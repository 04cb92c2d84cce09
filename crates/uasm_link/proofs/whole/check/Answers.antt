use Rattle.std.proofs.Common.{◌≡◌, ◌<◌, ◌≤◌, [], map, None, sym, ap, ◌∙◌, arith, rules}
use Rattle.std.specs.Prelude.{not, option_map}
use Rattle.std.specs.List.{find}
use Rattle.uasm_read.specs.Texts.{Name, has_name}
use borrow.Author.Tests.{tests}
use Rattle.uasm_read.specs.Reading.{holds}
use Rattle.uasm_read.specs.Links.{first_twice, exports_of_all, imports_of_all, boot_name, item_limit, count_of_items}
use Rattle.uasm_link.proofs.Images.{find_same, fault_twice, fault_missing, fault_boot, fault_large, no_fault}
use Rattle.uasm_link.proofs.whole.check.Goals as goal

pub returns-in-Some-clause-fault : goal.returns-in-Some-clause-fault
unfolding exports_of_all
returns-in-Some-clause-fault c =
    let exports : map (λ name. name.now) c.as_slice-exports.result.now ≡ exports_of_all c.args.modules.now = ap (map (λ name. name.now)) c.as_slice-exports.ensures.value ∙ c.in_ok-exports.ensures in
    rw c.in_ok-name_copied.ensures (fault_twice c.args.modules.now c.in-Some.name.now (ap (first_twice []) (sym exports) ∙ sym c.in_ok-name.ensures ∙ ap (option_map (λ name. name.now)) c.in-Some.is))

pub returns-in-Some-first_missing-clause-fault : goal.returns-in-Some-first_missing-clause-fault
unfolding exports_of_all imports_of_all
returns-in-Some-first_missing-clause-fault c =
    let exports : map (λ name. name.now) c.as_slice-exports.result.now ≡ exports_of_all c.args.modules.now = ap (map (λ name. name.now)) c.as_slice-exports.ensures.value ∙ c.in_ok-exports.ensures in
    let twice : first_twice [] (exports_of_all c.args.modules.now) ≡ None = ap (first_twice []) (sym exports) ∙ sym c.in_ok-name.ensures ∙ ap (option_map (λ name. name.now)) c.in_default.is in
    let imports : map (λ name. name.now) c.as_slice.result.now ≡ imports_of_all c.args.modules.now = ap (map (λ name. name.now)) c.as_slice.ensures.value ∙ c.in_ok-imports.ensures in
    let asked : (name : Name) → not (holds c.in_ok-set.set name) ≡ not (has_name (exports_of_all c.args.modules.now) name) = λ name. ap not (c.in_ok-set.ensures name ∙ ap (λ names. has_name names name) exports) in
    let looked : option_map (λ name. name.now) c.first_missing.result ≡ find (λ name. not (has_name (exports_of_all c.args.modules.now) name)) (imports_of_all c.args.modules.now) =
    c.first_missing.ensures ∙ find_same (λ name. not (holds c.in_ok-set.set name)) (λ name. not (has_name (exports_of_all c.args.modules.now) name)) asked (map (λ name. name.now) c.as_slice.result.now)
    ∙ ap (find (λ name. not (has_name (exports_of_all c.args.modules.now) name))) imports in
    rw c.in_ok-name_copied-2.ensures (fault_missing c.args.modules.now c.in-Some-first_missing.name.now twice (sym looked ∙ ap (option_map (λ name. name.now)) c.in-Some-first_missing.is))

pub returns-then-not-contains-clause-fault : goal.returns-then-not-contains-clause-fault
unfolding exports_of_all imports_of_all
returns-then-not-contains-clause-fault c =
    let exports : map (λ name. name.now) c.as_slice-exports.result.now ≡ exports_of_all c.args.modules.now = ap (map (λ name. name.now)) c.as_slice-exports.ensures.value ∙ c.in_ok-exports.ensures in
    let twice : first_twice [] (exports_of_all c.args.modules.now) ≡ None = ap (first_twice []) (sym exports) ∙ sym c.in_ok-name.ensures ∙ ap (option_map (λ name. name.now)) c.in_default.is in
    let imports : map (λ name. name.now) c.as_slice.result.now ≡ imports_of_all c.args.modules.now = ap (map (λ name. name.now)) c.as_slice.ensures.value ∙ c.in_ok-imports.ensures in
    let asked : (name : Name) → not (holds c.in_ok-set.set name) ≡ not (has_name (exports_of_all c.args.modules.now) name) = λ name. ap not (c.in_ok-set.ensures name ∙ ap (λ names. has_name names name) exports) in
    let looked : option_map (λ name. name.now) c.first_missing.result ≡ find (λ name. not (has_name (exports_of_all c.args.modules.now) name)) (imports_of_all c.args.modules.now) =
    c.first_missing.ensures ∙ find_same (λ name. not (holds c.in_ok-set.set name)) (λ name. not (has_name (exports_of_all c.args.modules.now) name)) asked (map (λ name. name.now) c.as_slice.result.now)
    ∙ ap (find (λ name. not (has_name (exports_of_all c.args.modules.now) name))) imports in
    let found : find (λ name. not (has_name (exports_of_all c.args.modules.now) name)) (imports_of_all c.args.modules.now) ≡ None = sym looked ∙ ap (option_map (λ name. name.now)) c.in_default-first_missing.is in
    let boot : has_name (exports_of_all c.args.modules.now) boot_name ≡ c.contains.result =
    sym (c.contains.ensures ∙ ap (holds c.in_ok-set.set) c.as_slice-2.ensures ∙ c.in_ok-set.ensures boot_name ∙ ap (λ names. has_name names boot_name) exports) in
    fault_boot c.args.modules.now twice found (boot ∙ c.if-not-contains.true)

pub returns-then-count_items-gt1048560-clause-fault : goal.returns-then-count_items-gt1048560-clause-fault
unfolding exports_of_all imports_of_all
returns-then-count_items-gt1048560-clause-fault c =
    let exports : map (λ name. name.now) c.as_slice-exports.result.now ≡ exports_of_all c.args.modules.now = ap (map (λ name. name.now)) c.as_slice-exports.ensures.value ∙ c.in_ok-exports.ensures in
    let twice : first_twice [] (exports_of_all c.args.modules.now) ≡ None = ap (first_twice []) (sym exports) ∙ sym c.in_ok-name.ensures ∙ ap (option_map (λ name. name.now)) c.in_default.is in
    let imports : map (λ name. name.now) c.as_slice.result.now ≡ imports_of_all c.args.modules.now = ap (map (λ name. name.now)) c.as_slice.ensures.value ∙ c.in_ok-imports.ensures in
    let asked : (name : Name) → not (holds c.in_ok-set.set name) ≡ not (has_name (exports_of_all c.args.modules.now) name) = λ name. ap not (c.in_ok-set.ensures name ∙ ap (λ names. has_name names name) exports) in
    let looked : option_map (λ name. name.now) c.first_missing.result ≡ find (λ name. not (has_name (exports_of_all c.args.modules.now) name)) (imports_of_all c.args.modules.now) =
    c.first_missing.ensures ∙ find_same (λ name. not (holds c.in_ok-set.set name)) (λ name. not (has_name (exports_of_all c.args.modules.now) name)) asked (map (λ name. name.now) c.as_slice.result.now)
    ∙ ap (find (λ name. not (has_name (exports_of_all c.args.modules.now) name))) imports in
    let found : find (λ name. not (has_name (exports_of_all c.args.modules.now) name)) (imports_of_all c.args.modules.now) ≡ None = sym looked ∙ ap (option_map (λ name. name.now)) c.in_default-first_missing.is in
    let boot : has_name (exports_of_all c.args.modules.now) boot_name ≡ c.contains.result =
    sym (c.contains.ensures ∙ ap (holds c.in_ok-set.set) c.as_slice-2.ensures ∙ c.in_ok-set.ensures boot_name ∙ ap (λ names. has_name names boot_name) exports) in
    let more : item_limit < count_of_items c.args.modules.now = omega (arith, c.count_items.ensures.count, c.if-count_items-gt1048560.true) in
    fault_large c.args.modules.now twice found (boot ∙ c.if-not-contains.false) (search (rules, tests))

pub returns-clause-sound : goal.returns-clause-sound
unfolding exports_of_all imports_of_all
returns-clause-sound c =
    let exports : map (λ name. name.now) c.as_slice-exports.result.now ≡ exports_of_all c.args.modules.now = ap (map (λ name. name.now)) c.as_slice-exports.ensures.value ∙ c.in_ok-exports.ensures in
    let twice : first_twice [] (exports_of_all c.args.modules.now) ≡ None = ap (first_twice []) (sym exports) ∙ sym c.in_ok-name.ensures ∙ ap (option_map (λ name. name.now)) c.in_default.is in
    let imports : map (λ name. name.now) c.as_slice.result.now ≡ imports_of_all c.args.modules.now = ap (map (λ name. name.now)) c.as_slice.ensures.value ∙ c.in_ok-imports.ensures in
    let asked : (name : Name) → not (holds c.in_ok-set.set name) ≡ not (has_name (exports_of_all c.args.modules.now) name) = λ name. ap not (c.in_ok-set.ensures name ∙ ap (λ names. has_name names name) exports) in
    let looked : option_map (λ name. name.now) c.first_missing.result ≡ find (λ name. not (has_name (exports_of_all c.args.modules.now) name)) (imports_of_all c.args.modules.now) =
    c.first_missing.ensures ∙ find_same (λ name. not (holds c.in_ok-set.set name)) (λ name. not (has_name (exports_of_all c.args.modules.now) name)) asked (map (λ name. name.now) c.as_slice.result.now)
    ∙ ap (find (λ name. not (has_name (exports_of_all c.args.modules.now) name))) imports in
    let found : find (λ name. not (has_name (exports_of_all c.args.modules.now) name)) (imports_of_all c.args.modules.now) ≡ None = sym looked ∙ ap (option_map (λ name. name.now)) c.in_default-first_missing.is in
    let boot : has_name (exports_of_all c.args.modules.now) boot_name ≡ c.contains.result =
    sym (c.contains.ensures ∙ ap (holds c.in_ok-set.set) c.as_slice-2.ensures ∙ c.in_ok-set.ensures boot_name ∙ ap (λ names. has_name names boot_name) exports) in
    let few : count_of_items c.args.modules.now ≤ item_limit = omega (arith, c.count_items.ensures.count, c.if-count_items-gt1048560.false) in
    no_fault c.args.modules.now twice found (boot ∙ c.if-not-contains.false) (search (rules, tests))
