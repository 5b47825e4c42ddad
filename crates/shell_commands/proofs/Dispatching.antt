-- Which function runs a command: one of a broadcaster is run at once, any other is handed on, and one that needs threads is declined there.
use Rattle.std.proofs.Common.{◌≡◌, ℕ, false, List, Option, inl, refl}
use Rattle.std.proofs.lemmas.Bool.{true≢false}
use Rattle.path_tree.specs.Paths.{PathNames}
use Rattle.folder_store.specs.Folders.{FolderTree}
use Rattle.folder_playout.specs.Notices.{Notice}
use Rattle.shell_words.specs.Words as commands
use Rattle.shell_words.specs.declared.words.Command.{Command}
use Rattle.shell_words.specs.declared.words.Command.TheVariants as code
use Rattle.shell_streams.specs.Cuts.{Bytes}
use Rattle.receiver_commands.specs.Over.{Over, IsUntouched}
use Rattle.receiver_commands.specs.declared.status.Status.{Status}
use Rattle.receiver_commands.specs.declared.status.Status.TheVariants as status
use Rattle.shell_commands.specs.Promises.{Promises}
use Rattle.shell_commands.specs.Inner.Promises.{PromisesOther, is_of_broadcaster}

-- a command that is none of those of a broadcaster
pub of_none : (command : Command)
    → ((folder : _) → (carousel : ℕ) → (cycles : ℕ) → command ≡ code.Publish folder carousel cycles → ⊥)
    → ((pid : ℕ) → (folder : _) → (carousel : ℕ) → (cycles : ℕ) → command ≡ code.PublishOn pid folder carousel cycles → ⊥)
    → ((folder : _) → (carousel : ℕ) → (cycles : ℕ) → command ≡ code.PublishPsi folder carousel cycles → ⊥)
    → ((pid : ℕ) → (folder : _) → (carousel : ℕ) → (cycles : ℕ) → command ≡ code.Air pid folder carousel cycles → ⊥)
    → ((folder : _) → (carousel : ℕ) → (bitrate : ℕ) → command ≡ code.Plan folder carousel bitrate → ⊥)
    → (command ≡ code.Rehearse → ⊥)
    → is_of_broadcaster (commands.view command) ≡ false
of_none (code.Assemble id version size download) _ _ _ _ _ _ = refl
of_none (code.OpenSections paths) _ _ _ _ _ _ = refl
of_none (code.Open pid paths) _ _ _ _ _ _ = refl
of_none (code.Record pid) _ _ _ _ _ _ = refl
of_none (code.List pid) _ _ _ _ _ _ = refl
of_none (code.Publish folder carousel cycles) publish _ _ _ _ _ = absurd (publish folder carousel cycles refl)
of_none code.Rehearse _ _ _ _ _ rehearse = absurd (rehearse refl)
of_none code.Session _ _ _ _ _ _ = refl
of_none (code.Big size) _ _ _ _ _ _ = refl
of_none (code.Find carousel) _ _ _ _ _ _ = refl
of_none (code.OpenId carousel paths) _ _ _ _ _ _ = refl
of_none (code.PublishPsi folder carousel cycles) _ _ psi _ _ _ = absurd (psi folder carousel cycles refl)
of_none (code.PublishOn pid folder carousel cycles) _ on _ _ _ _ = absurd (on pid folder carousel cycles refl)
of_none (code.Mounts table paths) _ _ _ _ _ _ = refl
of_none (code.Watch pid paths) _ _ _ _ _ _ = refl
of_none (code.Plan folder carousel bitrate) _ _ _ _ plan _ = absurd (plan folder carousel bitrate refl)
of_none (code.Inspect pid) _ _ _ _ _ _ = refl
of_none (code.Extract pid folder) _ _ _ _ _ _ = refl
of_none (code.Air pid folder carousel cycles) _ _ _ air _ _ = absurd (air pid folder carousel cycles refl)
of_none (code.Why complaint) _ _ _ _ _ _ = refl

-- whatever weights are taken, folders read and notices given, the promise of such a command is the same
pub promises_other : (weights : List ℕ) (prefixes : List PathNames) (c : commands.Named) (s : Status) (source sink : Over Bytes) (folders store : Over FolderTree) (refused : Option Bytes) (told : List Notice → Type 0)
    → is_of_broadcaster c ≡ false → PromisesOther prefixes c s source sink store → Promises weights prefixes c s source sink folders store refused told
promises_other weights prefixes (commands.Assemble id version size download) s source sink folders store refused told other p = p
promises_other weights prefixes (commands.OpenSections paths) s source sink folders store refused told other p = p
promises_other weights prefixes (commands.Open pid paths) s source sink folders store refused told other p = p
promises_other weights prefixes (commands.Record pid) s source sink folders store refused told other p = p
promises_other weights prefixes (commands.ListAll pid) s source sink folders store refused told other p = p
promises_other weights prefixes (commands.Publish folder carousel cycles) s source sink folders store refused told other p = absurd (true≢false other)
promises_other weights prefixes commands.Rehearse s source sink folders store refused told other p = absurd (true≢false other)
promises_other weights prefixes commands.Session s source sink folders store refused told other p = p
promises_other weights prefixes (commands.Big n) s source sink folders store refused told other p = p
promises_other weights prefixes (commands.Find carousel) s source sink folders store refused told other p = p
promises_other weights prefixes (commands.OpenId carousel paths) s source sink folders store refused told other p = p
promises_other weights prefixes (commands.PublishPsi folder carousel cycles) s source sink folders store refused told other p = absurd (true≢false other)
promises_other weights prefixes (commands.PublishOn pid folder carousel cycles) s source sink folders store refused told other p = absurd (true≢false other)
promises_other weights prefixes (commands.Mounts entries paths) s source sink folders store refused told other p = p
promises_other weights prefixes (commands.Watch pid paths) s source sink folders store refused told other p = p
promises_other weights prefixes (commands.Plan folder carousel bitrate) s source sink folders store refused told other p = absurd (true≢false other)
promises_other weights prefixes (commands.Inspect pid) s source sink folders store refused told other p = p
promises_other weights prefixes (commands.Extract pid folder) s source sink folders store refused told other p = p
promises_other weights prefixes (commands.Air pid folder carousel cycles) s source sink folders store refused told other p = absurd (true≢false other)
promises_other weights prefixes (commands.Why complaint) s source sink folders store refused told other p = p

module _ (prefixes : List PathNames) (source sink : Over Bytes) (store : Over FolderTree) (unread : IsUntouched source) (unwritten : IsUntouched sink) where
  -- one that is none of those of a receiver either is declined
  pub declined : (command : Command) → is_of_broadcaster (commands.view command) ≡ false
      → ((id : ℕ) → (version : ℕ) → (size : ℕ) → (download : ℕ) → command ≡ code.Assemble id version size download → ⊥)
      → ((paths : _) → command ≡ code.OpenSections paths → ⊥)
      → ((pid : ℕ) → (paths : _) → command ≡ code.Open pid paths → ⊥)
      → ((carousel : ℕ) → (paths : _) → command ≡ code.OpenId carousel paths → ⊥)
      → ((pid : ℕ) → command ≡ code.List pid → ⊥)
      → ((pid : ℕ) → command ≡ code.Record pid → ⊥)
      → ((carousel : ℕ) → command ≡ code.Find carousel → ⊥)
      → ((table : _) → (paths : _) → command ≡ code.Mounts table paths → ⊥)
      → ((pid : ℕ) → (paths : _) → command ≡ code.Watch pid paths → ⊥)
      → ((pid : ℕ) → command ≡ code.Inspect pid → ⊥)
      → ((pid : ℕ) → (folder : _) → command ≡ code.Extract pid folder → ⊥)
      → ((complaint : _) → command ≡ code.Why complaint → ⊥)
      → PromisesOther prefixes (commands.view command) status.Words source sink store
  declined (code.Assemble id version size download) _ assemble _ _ _ _ _ _ _ _ _ _ _ = absurd (assemble id version size download refl)
  declined (code.OpenSections paths) _ _ sections _ _ _ _ _ _ _ _ _ _ = absurd (sections paths refl)
  declined (code.Open pid paths) _ _ _ opened _ _ _ _ _ _ _ _ _ = absurd (opened pid paths refl)
  declined (code.Record pid) _ _ _ _ _ _ recorded _ _ _ _ _ _ = absurd (recorded pid refl)
  declined (code.List pid) _ _ _ _ _ list _ _ _ _ _ _ _ = absurd (list pid refl)
  declined (code.Publish folder carousel cycles) other _ _ _ _ _ _ _ _ _ _ _ _ = absurd (true≢false other)
  declined code.Rehearse other _ _ _ _ _ _ _ _ _ _ _ _ = absurd (true≢false other)
  declined code.Session _ _ _ _ _ _ _ _ _ _ _ _ _ = record { ends = inl refl; unread = unread; unwritten = unwritten }
  declined (code.Big size) _ _ _ _ _ _ _ _ _ _ _ _ _ = record { ends = inl refl; unread = unread; unwritten = unwritten }
  declined (code.Find carousel) _ _ _ _ _ _ _ find _ _ _ _ _ = absurd (find carousel refl)
  declined (code.OpenId carousel paths) _ _ _ _ by_id _ _ _ _ _ _ _ _ = absurd (by_id carousel paths refl)
  declined (code.PublishPsi folder carousel cycles) other _ _ _ _ _ _ _ _ _ _ _ _ = absurd (true≢false other)
  declined (code.PublishOn pid folder carousel cycles) other _ _ _ _ _ _ _ _ _ _ _ _ = absurd (true≢false other)
  declined (code.Mounts table paths) _ _ _ _ _ _ _ _ mounts _ _ _ _ = absurd (mounts table paths refl)
  declined (code.Watch pid paths) _ _ _ _ _ _ _ _ _ watch _ _ _ = absurd (watch pid paths refl)
  declined (code.Plan folder carousel bitrate) other _ _ _ _ _ _ _ _ _ _ _ _ = absurd (true≢false other)
  declined (code.Inspect pid) _ _ _ _ _ _ _ _ _ _ inspect _ _ = absurd (inspect pid refl)
  declined (code.Extract pid folder) _ _ _ _ _ _ _ _ _ _ _ extract _ = absurd (extract pid folder refl)
  declined (code.Air pid folder carousel cycles) other _ _ _ _ _ _ _ _ _ _ _ _ = absurd (true≢false other)
  declined (code.Why complaint) _ _ _ _ _ _ _ _ _ _ _ _ why = absurd (why complaint refl)
