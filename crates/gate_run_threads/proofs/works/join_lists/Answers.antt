use Rattle.std.proofs.Common.{rules, ◌≡◌, ◌∙◌, sym, ap, subst, ◌∷◌, [], ◌++◌, append_assoc, append-nil, length, map}
use Rattle.std.proofs.lemmas.List.{map-append}
use Rattle.std.specs.Vec.Iter.{into_iter_items}
use Rattle.gate_run_threads.specs.Lists.{Pairwise}
use Rattle.gate_run_threads.proofs.Paired.{none_left}
use Rattle.gate_run_threads.proofs.works.join_lists.Goals as goal

pub loop-threads-preserved : goal.loop-threads-preserved
loop-threads-preserved g c later all =
    let steps : into_iter_items c.loop-threads.threads-iterator ≡ c.in-Some.threads ∷ into_iter_items c.next.new.self = search rules in
    subst (Pairwise (Pairwise g.W.Work.comes_to) (map (λ threads. map (λ thread. thread.promise.work.value) threads.items) c.args.lists.items))
    (sym (ap (λ xs. map (λ list. list.items) xs ++ later) c.in-Ok.ensures.items ∙ ap (λ xs. xs ++ later) (map-append (λ list. list.items) c.loop-threads.ends.items (c.in_ok-list.list ∷ [])) ∙ append_assoc (map (λ list. list.items) c.loop-threads.ends.items) (c.in_ok-list.list.items ∷ []) later))
    (c.loop-threads.invariant (c.in_ok-list.list.items ∷ later)
    (subst (λ xs. Pairwise (Pairwise g.W.Work.comes_to) (map (λ threads. map (λ thread. thread.promise.work.value) threads.items) xs) (c.in_ok-list.list.items ∷ later)) (sym steps) (c.in_ok-list.ensures, all)))

pub returns : goal.returns
returns g c =
    let none : length (into_iter_items c.loop-threads.threads-iterator) ≡ 0 = search rules in
    subst (Pairwise (Pairwise g.W.Work.comes_to) (map (λ threads. map (λ thread. thread.promise.work.value) threads.items) c.args.lists.items)) (append-nil (map (λ list. list.items) c.loop-threads.ends.items))
    (c.loop-threads.invariant [] (subst (λ xs. Pairwise (Pairwise g.W.Work.comes_to) (map (λ threads. map (λ thread. thread.promise.work.value) threads.items) xs) []) (sym (none_left (into_iter_items c.loop-threads.threads-iterator) none)) tt))
