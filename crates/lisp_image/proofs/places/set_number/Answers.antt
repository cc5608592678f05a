use Rattle.std.proofs.Common.{◌≡◌, ◌∙◌, ap, None, Some, rules, if◌then◌else◌}
use Rattle.std.specs.Map.{lookup}
use Rattle.std.specs.Str.{bytes_eq}
use Rattle.indexmap.specs.IndexMap.{get_by_text}
use Rattle.lisp_image.proofs.NumberLemmas.{on_ok, on_err, Replaces, number_of-set, number_of-same, number_of-home, number_of-no_home}
use Rattle.lisp_packages.proofs.TextLemmas.{is_text, lookup-insert_entry, lookup-set_value}
use Rattle.lisp_image.proofs.places.set_number.Goals as goal

pub returns-in-Some-clause-ok : goal.returns-in-Some-clause-ok
returns-in-Some-clause-ok c =
    let there : get_by_text c.args.homes.now c.args.home.now ≡ Some c.in-Some.names.now = search rules in
    let written : Replaces c.args.homes.now (c.get_mut.follows.lender c.set_in_home.new.names) c.args.home.now c.set_in_home.new.names
    = λ h. ap (lookup (is_text h)) (c.get_mut.follows.holds c.set_in_home.new.names).0
    ∙ lookup-set_value h c.args.home.now c.args.homes.now.entries c.set_in_home.new.names c.in-Some.names.now there in
    on_ok c.set_in_home.result
    (λ f. number_of-set c.args.homes.now (c.get_mut.follows.lender c.set_in_home.new.names) c.args.home.now c.set_in_home.new.names written c.args.name.now c.args.number
    (λ n. f n ∙ (λ j. if bytes_eq c.args.name.now n then Some c.args.number else number_of-home c.args.homes.now c.args.homes.now c.args.home.now c.in-Some.names.now there n j)))
    c.set_in_home.ensures.ok

pub returns-in-Some-clause-err : goal.returns-in-Some-clause-err
returns-in-Some-clause-err c =
    let there : get_by_text c.args.homes.now c.args.home.now ≡ Some c.in-Some.names.now = search rules in
    let written : Replaces c.args.homes.now (c.get_mut.follows.lender c.set_in_home.new.names) c.args.home.now c.set_in_home.new.names
    = λ h. ap (lookup (is_text h)) (c.get_mut.follows.holds c.set_in_home.new.names).0
    ∙ lookup-set_value h c.args.home.now c.args.homes.now.entries c.set_in_home.new.names c.in-Some.names.now there in
    on_err c.set_in_home.result
    (λ f. number_of-same c.args.homes.now (c.get_mut.follows.lender c.set_in_home.new.names) c.args.home.now c.set_in_home.new.names written
    (λ n. ap (lookup (is_text n)) f ∙ number_of-home c.args.homes.now c.args.homes.now c.args.home.now c.in-Some.names.now there n))
    c.set_in_home.ensures.err

pub returns-clause-ok : goal.returns-clause-ok
returns-clause-ok c =
    let none : get_by_text c.args.homes.now c.args.home.now ≡ None = search rules in
    let written : Replaces c.args.homes.now c.insert.new.self c.args.home.now c.set_in_home-2.new.names
    = λ h. ap (lookup (is_text h)) c.in_ok-insert.ensures.entries
    ∙ lookup-insert_entry h c.get_mut.follows.lender-at-none.entries c.in_ok-home.home c.set_in_home-2.new.names
    ∙ (λ j. if bytes_eq (c.in_ok-home.ensures.ok j) h then Some c.set_in_home-2.new.names else get_by_text (c.get_mut.follows.holds-at-none j) h) in
    number_of-set c.args.homes.now c.insert.new.self c.args.home.now c.set_in_home-2.new.names written c.args.name.now c.args.number
    (λ n. c.in_ok-set_in_home.ensures.ok n
    ∙ (λ j. if bytes_eq c.args.name.now n then Some c.args.number else ((ap (lookup (is_text n)) c.new-names.ensures.empty ∙ number_of-no_home c.args.homes.now c.args.homes.now c.args.home.now c.set_in_home-2.new.names none n) j)))
