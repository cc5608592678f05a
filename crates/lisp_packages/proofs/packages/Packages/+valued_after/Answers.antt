use Rattle.std.proofs.Common.{◌≡◌, ◌≤◌, ◌∙◌, ap, sym, subst, length, rules}
use Rattle.lisp_data.specs.declared.sexp.Sexp.TheVariants as sexp
use Rattle.lisp_packages.specs.Causes.{IsFault, refusal_of}
use Rattle.lisp_packages.specs.Made.{with_made}
use Rattle.lisp_packages.specs.Naming.{named, valued}
use Rattle.lisp_packages.proofs.ValueLemmas.{refusal_of-symbol_valued, all-valued, valued-sym, valued-list}
use Rattle.lisp_packages.proofs.packages.Packages.+valued_after.Goals as goal

pub returns-in-Err-clause-err : goal.returns-in-Err-clause-err
returns-in-Err-clause-err t c =
    let token : c.as_str.result.now ≡ c.in-Sym.token = search rules in
    let refused : IsFault c.in-Err.fault (refusal_of (named (with_made c.args.self.now c.args.made.now) c.args.current c.in-Sym.token)) =
    subst (λ text. IsFault c.in-Err.fault (refusal_of (named (with_made c.args.self.now c.args.made.now) c.args.current text))) token c.in-Err.ensures.err in
    subst (IsFault c.in-Err.fault)
    (sym (ap refusal_of (valued-sym c.args.current c.args.form.now c.in-Sym.token (with_made c.args.self.now c.args.made.now) c.in-Sym.is)
    ∙ refusal_of-symbol_valued (named (with_made c.args.self.now c.args.made.now) c.args.current c.in-Sym.token)))
    refused

pub returns-after-loop-item-clause-ok : goal.returns-after-loop-item-clause-ok
returns-after-loop-item-clause-ok t c =
    let items : c.as_slice-item-items.result.now ≡ c.in-List.items = search rules in
    let past : length c.as_slice-item-items.result.now ≤ c.loop-item.item-index = search rules in
    valued-list c.args.current c.args.form.now c.as_slice-item-items.result.now (with_made c.args.self.now c.args.made.now) (c.in-List.is ∙ ap sexp.List (sym items))
    ∙ all-valued (valued c.args.current) c.as_slice-item-items.result.now c.loop-item.item-index c.loop-item.values (with_made c.args.self.now c.loop-item.made) _ past c.loop-item.invariant
