use Rattle.std.proofs.Common.{◌≡◌, ◌∙◌, ap, ap₂, ℕ, List, [], ◌∷◌, ◌++◌, map, string_bytes}
use Rattle.std.proofs.lemmas.List.{map-append}
use Rattle.lfi_image_file.specs.Files.{file_of}
use Rattle.tests_commands.specs.declared.disks.PutFile.{PutFile}
use Rattle.tests_commands.proofs.disks.MemoryStoreImageStore.put_image.Goals as goal

abbrev shown : PutFile → List ℕ × List ℕ
shown f = (string_bytes f.path, f.bytes.items)

pushed : (xs ys : List PutFile) (x : PutFile) (path bytes : List ℕ) → ys ≡ xs ++ x ∷ [] → string_bytes x.path ≡ path → x.bytes.items ≡ bytes → map shown ys ≡ map shown xs ++ (path, bytes) ∷ []
pushed xs ys x path bytes more same is = ap (map shown) more ∙ map-append shown xs (x ∷ []) ∙ ap₂ (λ p b. map shown xs ++ (p, b) ∷ []) same is

pub returns-in_ok-push-in-Ok-clause-ok : goal.returns-in_ok-push-in-Ok-clause-ok
returns-in_ok-push-in-Ok-clause-ok c =
    pushed c.args.self.now.put.items c.push.new.self.items (record { path = c.in_ok-path.path; bytes = c.write_image.new.writer }) c.args.path.now (file_of c.args.image.now)
    c.in_ok-push-in-Ok.ensures.items c.in_ok-path.ensures.ok (c.in-Ok.ensures.written ∙ ap (λ l. l ++ file_of c.args.image.now) c.new-bytes.ensures.items)
