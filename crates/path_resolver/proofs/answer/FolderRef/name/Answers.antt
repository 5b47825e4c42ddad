use Rattle.std.proofs.Common.{◌≡◌, ◌∙◌, ap, sym}
use Rattle.biop_object.specs.declared.module.Binding.{Binding}
use Rattle.biop_object.specs.ObjectReading.{bindings_of}
use Rattle.path_resolver.specs.Names.{names_of}
use Rattle.path_resolver.proofs.Named.{name_at}
use Rattle.path_resolver.proofs.answer.FolderRef.name.Goals as goal

pub returns : goal.returns
returns c =
    let names : c.args.self.now ≡ names_of (bindings_of c.deref.result.now c.self.inside.folder) = rw c.deref.ensures (sym c.self.view_is) in
    name_at c.args.self.now (bindings_of c.deref.result.now c.self.inside.folder) c.bindings.result.now c.args.i c.index-bindings-i.result c.bytes.result.now
    names c.bindings.ensures c.requires c.index-bindings-i.is (c.bytes.ensures ∙ ap (λ (b : Binding). b.name) (sym c.index-bindings-i.is))
